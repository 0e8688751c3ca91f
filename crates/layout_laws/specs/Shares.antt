-- What a layout is made from: the reserve of each bin, in slots of S ticks, on m processors.
use Rattle.std.specs.Prelude.{ℕ, zero, suc, ◌+◌, ◌*◌, ◌<◌, ◌≤◌, List, sum, slice_index}
use Rattle.plan.specs.Method.{full}

-- the reserve of bin p: 0 where there is none
abbrev pub share : List ℕ → ℕ → ℕ
share rs p = slice_index rs p

-- f 0 + f 1 + .. + f (n - 1)
unfoldable pub before : (ℕ → ℕ) → ℕ → ℕ
before f zero = 0
before f (suc n) = before f n + f n

-- the reserves fit on m processors
pub record Fit (S m : ℕ) (rs : List ℕ) : Type 0 where
  pub some : 0 < S
  pub each : (p : ℕ) → share rs p ≤ S
  pub total : sum rs ≤ m * S

-- the reserves are enough for the loads ws, and a window of T ticks has δ whole slots
pub record Carry (S δ T : ℕ) (rs ws : List ℕ) : Type 0 where
  pub slots : 0 < δ
  pub shortest : δ * S ≤ T
  pub light : (p : ℕ) → slice_index ws p ≤ full
  pub enough : (p : ℕ) → S * (δ + 1) * slice_index ws p ≤ share rs p * (slice_index ws p + δ * full)
