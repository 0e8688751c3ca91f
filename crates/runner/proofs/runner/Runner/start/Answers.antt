use Rattle.std.proofs.Common.{◌≡◌, length, refl, rules}
use Rattle.plan.specs.Plans.{planned}
use Rattle.schedule.specs.State.{Fresh}
use Rattle.schedule.proofs.Whole.{kept}
use Rattle.runner.specs.Jobs.{state}
use Rattle.runner.specs.Views.{work}
use Rattle.runner.proofs.Works.{sound_of}
use Rattle.runner.proofs.runner.Runner.start.Goals as goal
use Rattle.runner.proofs.runner.Runner.start.Goals.{then-is_ok, else-is_ok}

pub returns-clause-promise : goal.returns-clause-promise
returns-clause-promise g c f =
    let p = c.args.plan in
    let m = g.L.Layout.meaning c.args.layout in
    let n = c.if-is_ok.tasks in
    let s = state 0 c.of-jobs.result.slots in
    let fresh : Fresh s = record { clock = refl; deadline = c.of-jobs.ensures.deadlines; left = c.of-jobs.ensures.left } in
    let all : n ≡ length (planned p).tasks = elim c.if-is_ok.branch [ then-is_ok w ↦ search rules | else-is_ok w ↦ search rules ] in
    kept (work (planned p) n) m (sound_of p m n all f (g.met.L.Layout.exclusive c.args.layout) (g.met.L.Layout.supply c.args.layout)) s fresh
