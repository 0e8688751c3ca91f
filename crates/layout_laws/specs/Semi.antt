-- The semi-partitioned layout: bin q below m has the end of processor q's slot, and the other bins share what is left, wrapped over the
-- processors.
use Rattle.std.specs.Prelude.{ℕ, zero, suc, ◌+◌, ◌-◌, ◌<◌, ◌≤◌, if◌then◌else◌, List, length, Some, None, Option, nat_le, nat_lt, slice_index}
use Rattle.layout_laws.specs.Offset.{offset}
use Rattle.layout_laws.specs.Meaning.{Meaning, in_time}
use Rattle.layout_laws.specs.Shares.{share, before}

-- what processor q has left beside its own bin
abbrev pub room : ℕ → List ℕ → ℕ → ℕ
room S rs q = S - share rs q

-- F q: what the processors below q have left
abbrev pub free : ℕ → List ℕ → ℕ → ℕ
free S rs q = before (room S rs) q

-- G p: where bin p, at m or past it, starts in what is left
abbrev pub shared : ℕ → List ℕ → ℕ → ℕ
shared m rs p = before (λ i. share rs (m + i)) (p - m)

-- where bin p starts: in its own processor's slot, after what the processors up to that one have left, or in what is left
abbrev pub semi_start : ℕ → ℕ → List ℕ → ℕ → ℕ
semi_start S m rs p = if nat_lt p m then free S rs (suc p) else shared m rs p

-- the greatest q below n with f q ≤ x, or 0
unfoldable pub highest : (ℕ → ℕ) → ℕ → ℕ → ℕ
highest f x zero = 0
highest f x (suc n) = if nat_le (f n) x then n else highest f x n

abbrev pub own_serves : ℕ → List ℕ → ℕ → ℕ → Option ℕ
own_serves S rs t p = if nat_lt (offset S (free S rs (suc p)) t) (share rs p) then Some p else None

abbrev pub shared_serves : ℕ → ℕ → List ℕ → ℕ → ℕ → Option ℕ
shared_serves S m rs t p = if nat_lt (offset S (shared m rs p) t) (share rs p) then Some (highest (free S rs) (shared m rs p + offset S (shared m rs p) t) m) else None

abbrev pub semi_serves : ℕ → ℕ → List ℕ → ℕ → ℕ → Option ℕ
semi_serves S m rs t p = if nat_lt p m then own_serves S rs t p else shared_serves S m rs t p

-- slot S, m processors, shortest period T, reserves rs and loads ws
abbrev pub semi : ℕ → ℕ → ℕ → List ℕ → List ℕ → Meaning
semi S m T rs ws = record {
  processors = m;
  bins = length ws;
  shortest = T;
  load = λ p. slice_index ws p;
  serves = λ t p. in_time t (semi_serves S m rs t p);
}

-- processor q has position x of what is left
pub record Holds (S : ℕ) (rs : List ℕ) (m x q : ℕ) : Type 0 where
  pub known : q < m
  pub from : free S rs q ≤ x
  pub to : x < free S rs (suc q)
