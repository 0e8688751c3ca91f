use Rattle.std.proofs.Common.{◌≡◌, take}
use Rattle.plan.specs.Plans.{planned}
use Rattle.layout.proofs.dedicated.Dedicated.of.Given as goal

abbrev pub invariant-loop-bin : goal.invariant-loop-bin
invariant-loop-bin l = l.loads.items ≡ take l.bin-index (planned l.plan).loads
