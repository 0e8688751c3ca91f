use Rattle.std.proofs.Common.{take}
use Rattle.plan.specs.Closing.{charges_of}
use Rattle.plan.specs.Packs.{Packs}
use Rattle.plan.specs.Views.{tasks}
use Rattle.plan.proofs.table.Table.first_fit.Given as goal

abbrev pub invariant-loop-row : goal.invariant-loop-row
invariant-loop-row l = Packs (take l.row-index (charges_of (tasks l.self))) l.packing
