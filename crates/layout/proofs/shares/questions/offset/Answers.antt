use Rattle.std.proofs.Common.{refl}
use Rattle.layout_laws.specs.Offset.{offset}
use Rattle.layout.proofs.shares.questions.offset.Goals as goal

pub returns-clause-is : goal.returns-clause-is
unfolding offset
returns-clause-is c = refl
