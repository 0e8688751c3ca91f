-- The rules of the method, as laws that every plan keeps.
use Rattle.std.specs.Prelude.{◌≡◌, ℕ, zero, suc, ◌+◌, ◌*◌, ◌<◌, ◌≤◌, cond, List, [], length, Some, None, ◌==◌, ◌≢◌, slice_index}
use Rattle.std.specs.List.{slice_get}
use Rattle.plan.specs.Rows.{Task, name_refusal}
use Rattle.plan.specs.Method.{full, charge}
use Rattle.plan.specs.Closing.{Planned, Good, charges_of}

-- x is n ÷ d, or the next whole number above it
pub record LeastAbove (n d x : ℕ) : Type 0 where
  pub enough : n ≤ x * d
  pub least : (y : ℕ) → n ≤ y * d → x ≤ y

-- a row that no table refuses for its own sake
pub record GoodRow (t : Task) : Type 0 where
  pub name : name_refusal t.name ≡ None
  pub some : 1 ≤ t.budget
  pub room : t.budget ≤ t.period
  pub short : t.period ≤ 1000000

-- f 0 + .. + f (n - 1)
abbrev pub total : ℕ → (ℕ → ℕ) → ℕ
total zero f = 0
total (suc n) f = f n + total n f

-- what the first n tasks bring to bin p: the charges of those of them that stand in it
abbrev pub brought : List ℕ → List ℕ → ℕ → ℕ → ℕ
brought charges bins n p = total n (λ i. cond (slice_index bins i == p) (slice_index charges i) 0)

-- First-Fit: `bins` has the bin of each task, `loads` the load of each bin
pub record FirstFit (charges bins loads : List ℕ) : Type 0 where
  -- each task stands in one bin
  pub each : length bins ≡ length charges
  pub within : (i : ℕ) → i < length charges → slice_index bins i < length loads
  -- its bin had room for it when it came, and no lower bin had
  pub room : (i : ℕ) → i < length charges → brought charges bins i (slice_index bins i) + slice_index charges i ≤ full
  pub lowest : (i p : ℕ) → i < length charges → p < slice_index bins i → full < brought charges bins i p + slice_index charges i
  -- every lower bin was in use by then: a new bin is opened only where none had room, and gets the next number
  pub opened : (i p : ℕ) → i < length charges → p < slice_index bins i → (j : ℕ) × (j < i) × (slice_index bins j ≡ p)
  -- no bin is empty
  pub used : (p : ℕ) → p < length loads → (i : ℕ) × (i < length charges) × (slice_index bins i ≡ p)
  -- the load of a bin is the sum of the charges of its tasks, and at most a whole processor
  pub load : (p : ℕ) → slice_index loads p ≡ brought charges bins (length charges) p
  pub light : (p : ℕ) → slice_index loads p ≤ full

-- T is the shortest period
pub record Shortest (ts : List Task) (T : ℕ) : Type 0 where
  pub below : (i : ℕ) (t : Task) → slice_get ts i ≡ Some t → T ≤ t.period
  pub one : (i : ℕ) × (t : Task) × (slice_get ts i ≡ Some t) × (t.period ≡ T)

-- S is T ÷ δ rounded down, and not 0
pub record Slot (T δ S : ℕ) : Type 0 where
  pub fits : δ * S ≤ T
  pub longest : (s : ℕ) → δ * s ≤ T → s ≤ S
  pub some : 1 ≤ S

-- R ticks of each slot are the least that is enough for the load W, and no more than the slot has
pub record Reserve (S δ W R : ℕ) : Type 0 where
  pub rounded : LeastAbove (S * (δ + 1) * W) (W + δ * full) R
  pub inside : R ≤ S

pub record GoodPlan (p : Planned) : Type 0 where
  pub processors : (1 ≤ p.processors) × (p.processors ≤ 16)
  pub delta : (1 ≤ p.delta) × (p.delta ≤ 16)
  pub charges : (i : ℕ) (t : Task) → slice_get p.tasks i ≡ Some t → LeastAbove (t.budget * full) t.period (charge t)
  pub packed : FirstFit (charges_of p.tasks) p.bins p.loads
  pub shortest : Shortest p.tasks p.shortest
  pub slot : Slot p.shortest p.delta p.slot
  pub each : length p.reserves ≡ length p.loads
  pub reserves : (q : ℕ) → q < length p.loads → Reserve p.slot p.delta (slice_index p.loads q) (slice_index p.reserves q)

pub record NoPlan (p : Planned) : Type 0 where
  pub slot : p.slot ≡ 0
  pub bins : p.bins ≡ []
  pub loads : p.loads ≡ []
  pub reserves : p.reserves ≡ []

-- what is true of every plan
pub record Lawful (p : Planned) : Type 0 where
  pub few : length p.tasks ≤ 64
  pub rows : (i : ℕ) (t : Task) → slice_get p.tasks i ≡ Some t → GoodRow t
  pub good : p.verdict ≡ Good → GoodPlan p
  pub refused : (p.verdict ≢ Good) → NoPlan p
