use Rattle.std.proofs.Common.{◌≤◌, sum_by, rules, arith}
use Rattle.std.proofs.lemmas.List.Sums.{sum-map}
use Rattle.plan.specs.Bins.{reserve_in}
use Rattle.plan.proofs.Plans.{reserved_short}
use Rattle.plan.proofs.plan.Plan.reserved.Goals as goal

pub sum-requires-clause-fits : goal.sum-requires-clause-fits
sum-requires-clause-fits c =
    let p = c.args.self.now in
    let short : sum_by reserve_in p.bins.items ≤ 64000000 = omega (arith, reserved_short p, sum-map reserve_in p.bins.items) in
    search rules
