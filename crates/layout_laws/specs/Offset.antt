-- The place of a tick in the slots that begin at a start: tick - start, modulo S.
use Rattle.std.specs.Prelude.{◌≡◌, ℕ, ◌+◌, ◌-◌, ◌%◌, ◌<◌}

-- (t - A) modulo S, a number below S also where A is past t
unfoldable pub offset : ℕ → ℕ → ℕ → ℕ
offset S A t = (t + (S - A % S)) % S

-- what that says: k is below S, and A + k and t leave the same remainder
pub record IsOffset (S A t k : ℕ) : Type 0 where
  pub below : k < S
  pub meets : (A + k) % S ≡ t % S

-- offset is that number, and the only one
pub record OffsetLaw : Type 0 where
  pub is : (S A t : ℕ) → 0 < S → IsOffset S A t (offset S A t)
  pub only : (S A t k : ℕ) → IsOffset S A t k → k ≡ offset S A t
