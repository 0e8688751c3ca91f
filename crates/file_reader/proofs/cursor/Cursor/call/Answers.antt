use Rattle.std.proofs.Common.{◌+◌, rules}
use Rattle.file_reader.proofs.cursor.Cursor.call.Goals as goal
use Rattle.file_reader.proofs.Spelling.{letter_stands, byte_stands}

pub returns-then-letter-eq82 : goal.returns-then-letter-eq82
returns-then-letter-eq82 c =
    let f = c.args.file.now in
    let p = c.args.self.now.pos in
    let s = letter_stands f p 82 _ (search rules) (search rules) (byte_stands f (p + 1) (search rules)) in
    record { limit = search rules; read = (search rules, s, search rules, search rules) }

pub returns-else-letter-eq82 : goal.returns-else-letter-eq82
returns-else-letter-eq82 c =
    let f = c.args.file.now in
    let p = c.args.self.now.pos in
    let s = letter_stands f p 68 _ (search rules) (search rules) (byte_stands f (p + 1) (search rules)) in
    record { limit = search rules; read = (search rules, s, search rules, search rules) }

pub returns-else-count-eq0 : goal.returns-else-count-eq0
returns-else-count-eq0 c =
    let f = c.args.file.now in
    let p = c.args.self.now.pos in
    let s = letter_stands f p 75 _ (search rules) (search rules) c.word-count.ensures.stands in
    record { limit = search rules; read = (search rules, s, search rules, search rules) }
