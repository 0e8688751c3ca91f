use Rattle.file_reader.proofs.Taking.{no_calls}
use Rattle.file_reader.proofs.pieces.TestedPieces.clear.Goals as goal

pub returns : goal.returns
returns c = no_calls
