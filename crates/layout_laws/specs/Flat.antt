-- The flat layout: the reserves one after another, wrapped at the end of each processor.
use Rattle.std.specs.Prelude.{ℕ, ◌+◌, ◌/◌, if◌then◌else◌, List, length, Some, None, Option, nat_lt, slice_index}
use Rattle.layout_laws.specs.Offset.{offset}
use Rattle.layout_laws.specs.Meaning.{Meaning, in_time}
use Rattle.layout_laws.specs.Shares.{share, before}

-- where bin p starts: at the end of the reserves of the lower bins
abbrev pub start : List ℕ → ℕ → ℕ
start rs p = before (share rs) p

-- bin p is served while its offset is below its reserve, by the processor that its position lies on
abbrev pub flat_serves : ℕ → List ℕ → ℕ → ℕ → Option ℕ
flat_serves S rs t p = if nat_lt (offset S (start rs p) t) (share rs p) then Some ((start rs p + offset S (start rs p) t) / S) else None

-- slot S, m processors, shortest period T, reserves rs and loads ws
abbrev pub flat : ℕ → ℕ → ℕ → List ℕ → List ℕ → Meaning
flat S m T rs ws = record {
  processors = m;
  bins = length ws;
  shortest = T;
  load = λ p. slice_index ws p;
  serves = λ t p. in_time t (flat_serves S rs t p);
}
