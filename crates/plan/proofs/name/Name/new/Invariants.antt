use Rattle.std.proofs.Common.{take}
use Rattle.plan.proofs.Naming.{Spelled}
use Rattle.plan.proofs.name.Name.new.Given as goal

abbrev pub invariant-loop-at : goal.invariant-loop-at
invariant-loop-at l = Spelled l.bytes (take l.at l.bytes) l.at
