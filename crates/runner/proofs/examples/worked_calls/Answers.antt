use Rattle.std.proofs.Common.{refl}
use Rattle.plan.proofs.Worked.{worked}
use Rattle.layout.proofs.Worked.{worked_layouts}
use Rattle.runner.proofs.Working.{fresh, run}
use Rattle.runner.proofs.examples.worked_calls.Goals as goal

pub returns : goal.returns
returns c = record { number = refl; worked = record { plans = worked; layouts = worked_layouts; fresh = fresh; run = run } }
