use Rattle.std.proofs.Common.{◌≡◌, ◌≤◌, length, get_or, ap, rules, ◌∙◌, arith}
use Rattle.std.proofs.lemmas.List.{length-map, take_all}
use Rattle.plan.specs.Bins.{load_of}
use Rattle.plan.specs.Closing.{Good}
use Rattle.plan.specs.Plans.{planned}
use Rattle.plan.proofs.Plans.{plan_lawful}
use Rattle.layout.proofs.dedicated.Dedicated.of.Goals as goal

pub invariant_of-result : goal.invariant_of-result
invariant_of-result c =
    let p = planned c.args.plan.now in
    let is_good : p.verdict ≡ Good = search rules in
    let good = (plan_lawful c.args.plan.now).good is_good in
    let past : length p.loads ≤ c.loop-bin.bin-index = omega (arith, ap length c.packed-bin-items.ensures.loads, length-map c.packed-bin-items.result.now load_of) in
    let all : c.loop-bin.loads.items ≡ p.loads = c.loop-bin.invariant ∙ take_all c.loop-bin.bin-index p.loads past in
    record {
      most = (omega (arith, good.processors.0), omega (arith, good.processors.1));
      room = omega (arith, ap length all, c.bins.ensures);
      light = λ q. omega (arith, ap (λ xs. get_or xs q 0) all, good.packed.light q);
    }
