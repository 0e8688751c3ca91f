use Rattle.std.proofs.Common.{◌≡◌, take}
use Rattle.plan.specs.Method.{shortest_of}
use Rattle.plan.specs.Views.{tasks}
use Rattle.plan.proofs.table.Table.shortest.Given as goal

abbrev pub invariant-loop-row : goal.invariant-loop-row
invariant-loop-row l = l.least ≡ shortest_of (take l.row-index (tasks l.self))
