use Rattle.plan.specs.Plans.{planned}
use Rattle.layout.proofs.Laying.{Laid}
use Rattle.layout.proofs.shares.making.laid.Given as goal

abbrev pub invariant-loop-at : goal.invariant-loop-at
invariant-loop-at l = Laid (planned l.plan).slot l.own (planned l.plan).loads (planned l.plan).reserves l.shares.items l.left l.taken l.at
