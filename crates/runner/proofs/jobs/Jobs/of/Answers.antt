use Rattle.std.proofs.Common.{unwrap_or, ap, ◌∙◌, arith}
use Rattle.std.proofs.lemmas.Option.{unwrap_or-slice_get}
use Rattle.plan.specs.Plans.{planned}
use Rattle.runner.proofs.Tables.{placed_none, placed_more}
use Rattle.runner.proofs.jobs.Jobs.of.Goals as goal

pub loop-task-init : goal.loop-task-init
loop-task-init c = placed_none (planned c.args.plan.now).bins

pub loop-task-preserved : goal.loop-task-preserved
loop-task-preserved c =
    let bins = (planned c.args.plan.now).bins in
    let n = c.loop-task.task in
    placed_more bins c.loop-task.job-items n _ c.loop-task.invariant (omega arith) (c.unwrap_or-job.ensures ∙ ap (λ o. unwrap_or o 0) c.bin.ensures ∙ unwrap_or-slice_get bins n 0) (c.loop-task.invariant.deadlines n) (c.loop-task.invariant.left n)
