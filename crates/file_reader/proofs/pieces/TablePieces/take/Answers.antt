use Rattle.std.proofs.lemmas.Result.{MatchResult-weaker}
use Rattle.plan.specs.Views.{tasks}
use Rattle.file_reader.proofs.Taking.{rows_more}
use Rattle.file_reader.proofs.pieces.TablePieces.take.Goals as goal

pub returns-clause-taken : goal.returns-clause-taken
returns-clause-taken c =
    MatchResult-weaker c.row.result c.row.ensures.read
    (λ _ read start taken. rows_more c.args.file.now start c.args.cursor.now.pos c.row.new.self.pos (tasks c.args.self.now) (tasks c.row.new.table) taken read)
    (λ _ _. tt)
