use Rattle.std.proofs.Common.{◌≡◌, ◌-◌, length}
use Rattle.plan.specs.Views.{tasks}
use Rattle.file_reader.proofs.Progressing.{Progress}
use Rattle.file_reader.proofs.reading.read.Given as goal

abbrev pub invariant-loop-section : goal.invariant-loop-section
invariant-loop-section l = (l.reader.file.now ≡ l.file) × Progress l.file l.settings l.reader.cursor.pos l.reader.due (tasks l.table) l.calls l.reader.noted

abbrev pub decreases-loop-section : goal.decreases-loop-section
decreases-loop-section l = length l.file - l.reader.cursor.pos
