-- What closing a table gives.
use Rattle.std.specs.Prelude.{ℕ, ◌/◌, ⊤, Bool, cond, ◌&&◌, List, [], map, length, Result, Ok, Err, ◌==◌, nat_le, nat_lt}
use Rattle.plan.specs.declared.verdict.PlanRefusal.{PlanRefusal}
use Rattle.plan.specs.declared.verdict.PlanRefusal.TheVariants.{BadProcessors, BadDelta, NoRows, ShortPeriod}
use Rattle.plan.specs.Rows.{Task}
use Rattle.plan.specs.Method.{charge, loads_from, bins_from, shortest_of, reserve_of}

-- a plan is good, or refused
abbrev pub Verdict : Type 0
Verdict = Result ⊤ PlanRefusal

abbrev pub Good : Verdict
Good = Ok tt

-- everything that can be asked of a plan
pub record Planned : Type 0 where
  pub tasks : List Task
  pub processors : ℕ
  pub delta : ℕ
  pub verdict : Verdict
  pub shortest : ℕ
  pub slot : ℕ
  -- the bin of each task
  pub bins : List ℕ
  -- the load and the reserve of each bin
  pub loads : List ℕ
  pub reserves : List ℕ

-- processors and delta are 1 to 16
abbrev pub in_range : ℕ → Bool
in_range n = nat_le 1 n && nat_le n 16

-- the first refusal that applies to a table of `rows` rows, the shortest period being `shortest`
abbrev pub judged : ℕ → ℕ → ℕ → ℕ → Verdict
judged m δ rows shortest = cond (in_range m) (cond (in_range δ) (cond (rows == 0) (Err NoRows) (cond (nat_lt shortest δ) (Err ShortPeriod) Good)) (Err BadDelta)) (Err BadProcessors)

abbrev pub verdict_of : List Task → ℕ → ℕ → Verdict
verdict_of ts m δ = judged m δ (length ts) (shortest_of ts)

-- what a good plan has, and a plan that is refused has not
abbrev pub where_good : {X : Type 0} → Verdict → X → X → X
where_good (Ok good) x none = x
where_good (Err e) x none = none

abbrev pub charges_of : List Task → List ℕ
charges_of ts = map charge ts

abbrev pub slot_of : List Task → ℕ → ℕ → ℕ
slot_of ts m δ = where_good (verdict_of ts m δ) (shortest_of ts / δ) 0

abbrev pub bins_of : List Task → ℕ → ℕ → List ℕ
bins_of ts m δ = where_good (verdict_of ts m δ) (bins_from [] (charges_of ts)) []

abbrev pub loads_of : List Task → ℕ → ℕ → List ℕ
loads_of ts m δ = where_good (verdict_of ts m δ) (loads_from [] (charges_of ts)) []

abbrev pub reserves_of : List Task → ℕ → ℕ → List ℕ
reserves_of ts m δ = map (reserve_of (slot_of ts m δ) δ) (loads_of ts m δ)

-- the plan of these rows for m processors and δ
abbrev pub closed : List Task → ℕ → ℕ → Planned
closed ts m δ = record {
  tasks = ts;
  processors = m;
  delta = δ;
  verdict = verdict_of ts m δ;
  shortest = shortest_of ts;
  slot = slot_of ts m δ;
  bins = bins_of ts m δ;
  loads = loads_of ts m δ;
  reserves = reserves_of ts m δ;
}
