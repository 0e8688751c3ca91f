use Rattle.std.proofs.Common.{◌≡◌, length, ap, rules, arith}
use Rattle.std.proofs.lemmas.List.{length-map}
use Rattle.plan.specs.Closing.{Good}
use Rattle.plan.specs.Plans.{planned}
use Rattle.plan.proofs.Plans.{plan_lawful, bins_few}
use Rattle.layout.specs.Makes.{Roomy}
use Rattle.layout.specs.Parts.{load_of}
use Rattle.layout.proofs.Plenty.{slot_short, fit_of, carry_of}
use Rattle.layout.proofs.shares.Shares.of.Goals as goal

pub invariant_of-result : goal.invariant_of-result
invariant_of-result c =
    let p = planned c.args.plan.now in
    let laws = plan_lawful c.args.plan.now in
    let is_good : p.verdict ≡ Good = search rules in
    let good = laws.good is_good in
    let roomy : Roomy p = record { good = is_good; room = search rules } in
    record {
      most = (omega (arith, good.processors.0, c.processors-2.ensures), omega (arith, good.processors.1, c.processors-2.ensures));
      few = omega (arith, ap length c.laid.ensures.loads, length-map c.laid.result.items load_of, bins_few c.args.plan.now);
      short = omega (arith, slot_short p laws good, c.slot-2.ensures);
      near = c.laid.ensures.near;
      fit = rw (c.slot-2.ensures, c.processors-2.ensures, c.laid.ensures.reserves) (fit_of p good roomy);
      carry = λ _. rw (c.slot-2.ensures, c.delta.ensures, c.shortest.ensures, c.laid.ensures.reserves, c.laid.ensures.loads) (carry_of p good);
    }
