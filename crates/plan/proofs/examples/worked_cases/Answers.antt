use Rattle.std.proofs.Common.{refl}
use Rattle.plan.proofs.Worked.{worked}
use Rattle.plan.proofs.examples.worked_cases.Goals as goal

pub returns : goal.returns
returns c = record { number = refl; worked = worked }
