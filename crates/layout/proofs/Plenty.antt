-- What a plan with room for its reserves gives to a layout.
use Rattle.std.proofs.Common.{ℕ, ◌+◌, ◌*◌, ◌≤◌, length, get_or, ap, ⊎_elim, arith}
use Rattle.std.proofs.lemmas.Nat.{mul-le}
use Rattle.std.proofs.lemmas.List.{get_or_past}
use Rattle.std.proofs.lemmas.Bool.{cases_lt}
use Rattle.plan.specs.declared.plan.Plan.{Plan}
use Rattle.plan.specs.Method.{full}
use Rattle.plan.specs.Closing.{Planned}
use Rattle.plan.specs.Laws.{Lawful, GoodPlan}
use Rattle.plan.specs.Plans.{planned}
use Rattle.plan.proofs.Keeping.{good_or_not}
use Rattle.plan.proofs.Plans.{plan_lawful}
use Rattle.layout_laws.specs.Shares.{Fit, Carry}
use Rattle.layout.specs.Makes.{Roomy}

-- no reserve is longer than the slot
pub inside : (p : Planned) → GoodPlan p → (q : ℕ) → get_or p.reserves q 0 ≤ p.slot
inside p good q =
    ⊎_elim (λ l. (good.reserves q l).inside) (λ l. omega (arith, get_or_past p.reserves q 0 (omega (arith, good.each)))) (cases_lt q (length p.loads))

pub slot_short : (p : Planned) → Lawful p → GoodPlan p → p.slot ≤ 1000000
slot_short p laws good =
    let one = good.shortest.one in
    omega (arith, good.slot.fits, mul-le 1 p.slot p.delta p.slot good.delta.0 (omega arith), one.3, (laws.rows one.0 one.1 one.2).short)

pub fit_of : (p : Planned) → GoodPlan p → Roomy p → Fit p.slot p.processors p.reserves
fit_of p good roomy = record { some = good.slot.some; each = inside p good; total = roomy.room }

pub carry_of : (p : Planned) → GoodPlan p → Carry p.slot p.delta p.shortest p.reserves p.loads
carry_of p good = record {
  slots = good.delta.0;
  shortest = good.slot.fits;
  light = good.packed.light;
  enough = λ q. ⊎_elim (λ l. (good.reserves q l).rounded.enough) (none q) (cases_lt q (length p.loads));
}
  where
    none : (q : ℕ) → length p.loads ≤ q → p.slot * (p.delta + 1) * get_or p.loads q 0 ≤ get_or p.reserves q 0 * (get_or p.loads q 0 + p.delta * full)
    none q l = omega (arith, ap (λ w. p.slot * (p.delta + 1) * w) (get_or_past p.loads q 0 l))

-- of any plan, since one that is refused has no reserves
pub reserve_inside : (p : Plan) (q : ℕ) → (get_or (planned p).reserves q 0 ≤ (planned p).slot) × ((planned p).slot ≤ 1000000)
reserve_inside p q =
    let laws = plan_lawful p in
    ⊎_elim (λ good. (inside (planned p) (laws.good good) q, slot_short (planned p) laws (laws.good good)))
    (λ bad. let none = laws.refused bad in (omega (arith, ap (λ rs. get_or rs q 0) none.reserves), omega (arith, none.slot)))
    (good_or_not (planned p).verdict)
