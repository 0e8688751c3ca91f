use Rattle.line_text.proofs.Lawful.{digits_law}
use Rattle.line_text.proofs.writing.write.Goals as goal

pub returns-then-len-area-clause-short : goal.returns-then-len-area-clause-short
returns-then-len-area-clause-short c = c.measured-len.ensures.short

pub returns-then-len-area-clause-numbers : goal.returns-then-len-area-clause-numbers
returns-then-len-area-clause-numbers c = digits_law

pub returns-clause-numbers : goal.returns-clause-numbers
returns-clause-numbers c = digits_law
