use Rattle.file_reader.proofs.Taking.{calls_more}
use Rattle.file_reader.proofs.pieces.TestedPieces.take.Goals as goal

pub returns-clause-taken : goal.returns-clause-taken
returns-clause-taken c =
    let read = c.in_ok-call.ensures.read in
    λ start taken. calls_more c.args.file.now start c.args.cursor.now.pos c.call.new.self.pos c.in_ok-call.field-0 taken read.1 read.2 read.3
