use Rattle.std.proofs.Common.{rules}
use Rattle.file_reader.proofs.cursor.word.Goals as goal
use Rattle.file_reader.proofs.Spelling.{word_stands}

pub returns : goal.returns
returns c = search (rules, word_stands)
