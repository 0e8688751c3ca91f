use Rattle.std.proofs.Common.{arith}
use Rattle.plan.specs.Views.{tasks}
use Rattle.plan.proofs.Keeping.{sound, shortest_short}
use Rattle.plan.proofs.Rowing.{rows_kept}
use Rattle.plan.proofs.plan.closing.with_bins.Goals as goal

pub of-cut-requires : goal.of-cut-requires
of-cut-requires c =
    let t = c.args.table in
    let s = sound (tasks t) c.args.processors c.args.delta c.requires.good in
    record { shortest = omega (arith, shortest_short (tasks t) (rows_kept t) s.rows, c.requires.shortest); delta = s.delta.0 }
