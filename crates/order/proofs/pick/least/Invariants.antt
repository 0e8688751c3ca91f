use Rattle.order.specs.Picks.{Picked}
use Rattle.order.proofs.pick.least.Given as goal

-- the pick among the records so far
abbrev pub invariant-loop-place : goal.invariant-loop-place
invariant-loop-place g l = Picked g.T.Ranked.less g.T.Marked.marking l.mark l.records l.place l.best
