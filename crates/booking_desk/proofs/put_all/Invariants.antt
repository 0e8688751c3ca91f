use Rattle.order.specs.Lines.{SameSlots}
use Rattle.booking_desk.proofs.Arranging.{SoFar}
use Rattle.booking_desk.proofs.put_all.Given as goal

-- the bookings so far went in
abbrev pub invariant-loop-i : goal.invariant-loop-i
invariant-loop-i l = SoFar l.initial.line l.line l.wanted l.i × SameSlots l.initial.line l.line
