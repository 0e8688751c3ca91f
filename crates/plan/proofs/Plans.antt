-- What a plan's memory stands for is what closing its table gives.
use Rattle.std.proofs.Common.{◌≡◌, ℕ, ◌<◌, ◌≤◌, List, [], length, get_or, Some, sum, sym, ap, ◌∙◌, subst, ⊎_elim, arith}
use Rattle.std.specs.List.{slice_get}
use Rattle.plan.specs.declared.plan.Plan.{Plan}
use Rattle.plan.specs.declared.table.Table.{Table}
use Rattle.std.proofs.lemmas.Nat.{mul-le}
use Rattle.std.proofs.lemmas.List.{length-map}
use Rattle.std.proofs.lemmas.List.Elements.{All-from_get_or}
use Rattle.std.proofs.lemmas.List.Sums.{sum_by-le}
use Rattle.std.specs.List.{All}
use Rattle.plan.specs.Bins.{load_of, reserve_in}
use Rattle.plan.specs.Closing.{Planned, Verdict, closed}
use Rattle.plan.specs.Rows.{Task}
use Rattle.plan.specs.Laws.{GoodRow, GoodPlan, Lawful}
use Rattle.plan.specs.Plans.{planned}
use Rattle.plan.specs.Views.{task_of, tasks}
use Rattle.plan.proofs.Keeping.{good_or_not, lawful}
use Rattle.plan.proofs.Rowing.{rows_kept, tasks_count}

-- plans that agree in every part are equal
alike : (ts : List Task) (m δ : ℕ) {v v' : Verdict} {T T' S S' : ℕ} {bs bs' ws ws' rs rs' : List ℕ} → v ≡ v' → T ≡ T' → S ≡ S' → bs ≡ bs' → ws ≡ ws' → rs ≡ rs' → ◌≡◌ {A = Planned} (record { tasks = ts; processors = m; delta = δ; verdict = v; shortest = T; slot = S; bins = bs; loads = ws; reserves = rs }) (record { tasks = ts; processors = m; delta = δ; verdict = v'; shortest = T'; slot = S'; bins = bs'; loads = ws'; reserves = rs' })
alike ts m δ v T S bs ws rs = cc

pub planned_is : (p : Plan) → planned p ≡ closed (tasks p.table) p.processors p.delta
planned_is p = alike (tasks p.table) p.processors p.delta p.judged p.least p.cut p.placed p.loaded p.reserved

pub plan_lawful : (p : Plan) → Lawful (planned p)
plan_lawful p =
    let t = p.table in
    subst Lawful (sym (planned_is p)) (lawful (tasks t) (rows_kept t) p.processors p.delta (omega (arith, tasks_count t, t.few)))

-- a plan over this table for these settings is what closing the table gives
pub closes : (p : Plan) (t : Table) (m δ : ℕ) → p.table ≡ t → p.processors ≡ m → p.delta ≡ δ → planned p ≡ closed (tasks t) m δ
closes p t m δ a b c = planned_is p ∙ ap (λ u. closed (tasks u) p.processors p.delta) a ∙ ap (λ n. closed (tasks t) n p.delta) b ∙ ap (closed (tasks t) m) c

-- no reserve is longer than the slot, which is no longer than the shortest period
pub reserve_short : (p : Plan) (q : ℕ) → q < length (planned p).loads → get_or (planned p).reserves q 0 ≤ 1000000
reserve_short p q l = let laws = plan_lawful p in ⊎_elim (λ good. short laws.rows (laws.good good)) (λ bad. none (laws.refused bad).loads) (good_or_not p.verdict)
  where
    short : ((i : ℕ) (t : Task) → slice_get (planned p).tasks i ≡ Some t → GoodRow t) → GoodPlan (planned p) → get_or (planned p).reserves q 0 ≤ 1000000
    short rows good =
        let one = good.shortest.one in
        let r = good.reserves q l in
        omega (arith, r.inside, good.slot.fits, mul-le 1 p.slot p.delta p.slot good.delta.0 (omega arith), one.3, (rows one.0 one.1 one.2).short)

    none : (planned p).loads ≡ [] → get_or (planned p).reserves q 0 ≤ 1000000
    none e = absurd (omega (arith, ap length e))

-- there are at most as many bins as rows can be
pub bins_few : (p : Plan) → length (planned p).loads ≤ 64
bins_few p = omega (arith, length-map p.bins.items load_of, p.few)

pub reserves_count : (p : Plan) → length (planned p).reserves ≡ length (planned p).loads
reserves_count p = length-map p.bins.items reserve_in ∙ sym (length-map p.bins.items load_of)

-- all of them together are below 2 ^ 32
pub reserved_short : (p : Plan) → sum (planned p).reserves ≤ 64000000
reserved_short p =
    let rs = (planned p).reserves in
    let each : All (λ r. r ≤ 1000000) rs = All-from_get_or (λ r. r ≤ 1000000) rs 0 (λ q l. reserve_short p q (omega (arith, l, reserves_count p))) in
    omega (arith, sum_by-le (λ r. r) 1000000 rs each, reserves_count p, bins_few p)
