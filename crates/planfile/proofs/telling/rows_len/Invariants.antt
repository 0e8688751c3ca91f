use Rattle.std.proofs.Common.{◌≡◌, length, take}
use Rattle.std.specs.List.{flat_map}
use Rattle.planfile.proofs.RowByRow.{spelled}
use Rattle.planfile.proofs.telling.rows_len.Given as goal

-- the rows so far
abbrev pub invariant-loop-row : goal.invariant-loop-row
invariant-loop-row l = l.len ≡ length (flat_map spelled (take l.row-index l.row-items))
