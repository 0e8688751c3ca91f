-- Which layouts a plan has, and what they mean.
use Rattle.std.specs.Prelude.{◌≡◌, ℕ, ◌*◌, ◌≤◌, ⊤, length, sum, Result, MatchResult, slice_index}
use Rattle.plan.specs.Closing.{Planned, Good}
use Rattle.layout.specs.declared.refusal.NotMade.{NotMade}
use Rattle.layout_laws.specs.Meaning.{Meaning, empty}
use Rattle.layout_laws.specs.Flat.{flat}
use Rattle.layout_laws.specs.Semi.{semi}
use Rattle.layout_laws.specs.Dedicated.{dedicated}

-- the reserves of a good plan are at most what the processors have in a slot: the plan has a flat and a semi-partitioned layout
pub record Roomy (p : Planned) : Type 0 where
  pub good : p.verdict ≡ Good
  pub room : sum p.reserves ≤ p.processors * p.slot

-- a good plan has a processor for each bin: it has a dedicated layout
pub record Spacious (p : Planned) : Type 0 where
  pub good : p.verdict ≡ Good
  pub room : length p.loads ≤ p.processors

abbrev pub flat_of : Planned → Meaning
flat_of p = flat p.slot p.processors p.shortest p.reserves p.loads

abbrev pub semi_of : Planned → Meaning
semi_of p = semi p.slot p.processors p.shortest p.reserves p.loads

abbrev pub dedicated_of : Planned → Meaning
dedicated_of p = dedicated p.processors p.shortest p.loads

-- a layout fits a plan that is good and has its processors, bins, shortest period and loads
pub record Fits (p : Planned) (m : Meaning) : Type 0 where
  pub good : p.verdict ≡ Good
  pub processors : p.processors ≡ m.processors
  pub bins : length p.loads ≡ m.bins
  pub shortest : p.shortest ≡ m.shortest
  pub loads : (q : ℕ) → slice_index p.loads q ≡ m.load q

-- what filling a place leaves there: the plan's layout where the plan has one, and else the empty layout
abbrev pub Filled : (Planned → Type 0) → (Planned → Meaning) → Planned → Result ⊤ NotMade → Meaning → Type 0
Filled Has layout_of p result new = MatchResult result (λ u. Has p × (new ≡ layout_of p) × Fits p new) (λ e. (¬ Has p) × (new ≡ empty))

-- what making a layout of a plan gives, where x means m of a layout that was made
abbrev pub Made : {X : Type 0} → (Planned → Type 0) → (Planned → Meaning) → Planned → (X → Meaning) → Result X NotMade → Type 0
Made Has layout_of p m result = MatchResult result (λ x. Has p × (m x ≡ layout_of p) × Fits p (m x)) (λ e. ¬ Has p)
