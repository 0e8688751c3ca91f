use Rattle.std.proofs.Common.{refl}
use Rattle.schedule.proofs.Example.{worked_run}
use Rattle.schedule.proofs.Whole.{kept}
use Rattle.schedule.proofs.examples.worked_calls.Goals as goal

pub returns : goal.returns
returns c = record { number = refl; worked = worked_run; promise = kept }
