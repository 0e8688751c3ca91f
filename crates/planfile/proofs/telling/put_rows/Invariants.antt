use Rattle.std.proofs.Common.{take}
use Rattle.std.specs.List.{flat_map}
use Rattle.areas.specs.Pens.{Puts}
use Rattle.planfile.proofs.RowByRow.{spelled}
use Rattle.planfile.proofs.telling.put_rows.Given as goal

-- the rows so far
abbrev pub invariant-loop-row : goal.invariant-loop-row
invariant-loop-row l = Puts l.initial.pen (flat_map spelled (take l.row-index l.row-items)) l.pen
