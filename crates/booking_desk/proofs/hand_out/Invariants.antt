use Rattle.std.proofs.Common.{length}
use Rattle.order.specs.Lines.{held}
use Rattle.booking_desk.proofs.hand_out.Given as goal

-- each turn takes a booking out
abbrev pub decreases-loop-tick : goal.decreases-loop-tick
decreases-loop-tick g l = length (held l.line)
