use Rattle.std.proofs.Common.{◌<◌, ◌≤◌, get_or, ap, arith}
use Rattle.order.specs.declared.booking.Booking.{Booking}
use Rattle.order.specs.Lines.{held}
use Rattle.order.proofs.Dues.{due_taken, due_none}
use Rattle.order.proofs.booking.Line+Booking.take_due.Goals as goal

pub returns-in-len1-up-clause-due : goal.returns-in-len1-up-clause-due
returns-in-len1-up-clause-due c =
    let d : Booking = record { tick = 0; task = 0 } in
    let old = c.args.self.now in
    let e = ap (λ bs. (get_or bs 0 d).tick) c.records.ensures in
    let le : (get_or (held old) 0 d).tick ≤ c.args.clock = omega arith in
    due_taken c.args.clock d old c.take.new.self c.take.result old.sorted le c.take.ensures.taken

pub returns-in_default-2-clause-due : goal.returns-in_default-2-clause-due
returns-in_default-2-clause-due c =
    let d : Booking = record { tick = 0; task = 0 } in
    let e = ap (λ bs. (get_or bs 0 d).tick) c.records.ensures in
    let late : c.args.clock < (get_or (held c.args.self.now) 0 d).tick = omega arith in
    due_none c.args.clock d c.args.self.now c.args.self.now.sorted late
