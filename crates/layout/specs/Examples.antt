-- Worked cases of layouts.
use Rattle.std.specs.Prelude.{◌≡◌, ℕ, zero, suc, ◌+◌, List, [], ◌∷◌, ◌++◌, map, replicate, Some, None, Option}
use Rattle.plan.specs.Closing.{Planned, closed}
use Rattle.plan.specs.Examples.{Case, task, whole, three_bins, four_bins}
use Rattle.layout_laws.specs.Offset.{OffsetLaw}
use Rattle.layout.specs.Makes.{Roomy, semi_of}

-- the plan of a case for m processors
abbrev pub plan_on : ℕ → Case → Planned
plan_on m c = closed (map task c.rows) m c.delta

-- n ticks from t on
abbrev pub ticks : ℕ → ℕ → List ℕ
ticks t zero = []
ticks t (suc n) = t ∷ ticks (t + 1) n

-- who serves bin 3 of the four bins in the first slot, semi-partitioned: processors 0, 1 and 2 in turn, then nobody
abbrev pub fourth_bin : List (Option ℕ)
fourth_bin = map (λ t. (semi_of (plan_on 3 four_bins)).serves t 3) (ticks 0 100)

pub record WorkedLayouts : Type 0 where
  -- two whole tasks need two processors
  pub two_processors : Roomy (plan_on 2 whole)
  pub not_one : Roomy (plan_on 1 whole) → ⊥
  -- reserves of 7, 6 and 7 in slots of 9 fit on three
  pub three_processors : Roomy (plan_on 3 three_bins)
  pub in_turn : fourth_bin ≡ replicate 28 (Some 0) ++ (replicate 25 (Some 1) ++ (replicate 25 (Some 2) ++ replicate 22 None))
  -- the offset by which bins are served is the one number below the slot that leaves the tick's remainder
  pub offset : OffsetLaw
