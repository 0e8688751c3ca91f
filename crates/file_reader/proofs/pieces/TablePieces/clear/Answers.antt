use Rattle.plan.specs.Views.{tasks}
use Rattle.file_reader.proofs.Taking.{no_rows}
use Rattle.file_reader.proofs.pieces.TablePieces.clear.Goals as goal

pub returns : goal.returns
returns c = λ file at. no_rows file at (tasks c.clear.new.self) c.clear.ensures
