use Rattle.std.proofs.Common.{refl}
use Rattle.layout.proofs.Worked.{worked_layouts}
use Rattle.layout.proofs.examples.worked_ticks.Goals as goal

pub returns : goal.returns
returns c = record { number = refl; worked = worked_layouts }
