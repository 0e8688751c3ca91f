-- The dedicated layout: bin p has processor p to itself.
use Rattle.std.specs.Prelude.{ℕ, if◌then◌else◌, List, length, Some, None, nat_lt, slice_index}
use Rattle.layout_laws.specs.Meaning.{Meaning, in_time}

-- m processors, shortest period T and loads ws
abbrev pub dedicated : ℕ → ℕ → List ℕ → Meaning
dedicated m T ws = record {
  processors = m;
  bins = length ws;
  shortest = T;
  load = λ p. slice_index ws p;
  serves = λ t p. in_time t (if nat_lt p (length ws) then Some p else None);
}
