use Rattle.std.proofs.Common.{take}
use Rattle.std.specs.List.{flat_map}
use Rattle.areas.specs.Pens.{Puts}
use Rattle.line_text.specs.Texts.{entry}
use Rattle.line_text.proofs.telling.put_row.Given as goal

-- the entries so far
abbrev pub invariant-loop-task : goal.invariant-loop-task
invariant-loop-task l = Puts l.initial.pen (flat_map entry (take l.task-index l.row)) l.pen
