use Rattle.plan.specs.Plans.{planned}
use Rattle.runner.proofs.Works.{row_of}
use Rattle.runner.proofs.runner.Runner.row.Goals as goal

pub returns-then-task-self : goal.returns-then-task-self
returns-then-task-self g c =
    let s = c.args.self.now in
    row_of (planned s.plan) s.tasks c.args.task c.row.result c.if-task-self.true s.listed c.row.ensures
