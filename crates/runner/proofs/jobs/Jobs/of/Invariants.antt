use Rattle.plan.specs.Plans.{planned}
use Rattle.runner.proofs.Tables.{Placed}
use Rattle.runner.proofs.jobs.Jobs.of.Given as goal

abbrev pub invariant-loop-task : goal.invariant-loop-task
invariant-loop-task l = Placed (planned l.plan).bins l.job-items l.task
