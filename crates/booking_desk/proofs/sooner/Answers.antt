use Rattle.std.proofs.Common.{◌≡◌, sym, ◌∙◌, rules}
use Rattle.std.proofs.lemmas.List.{take-append-drop}
use Rattle.booking_desk.specs.Timetable.{left_in}
use Rattle.booking_desk.proofs.Two.{two_put}
use Rattle.booking_desk.proofs.sooner.Goals as goal

pub returns : goal.returns
returns c =
    let line = c.take.new.self in
    let h = two_put c.args.a c.args.b c.new-line.result c.put.new.self c.put-2.new.self line c.put.result c.put-2.result c.take.result c.args.area.now c.new-line.ensures.empty c.new-line.ensures.free c.put.ensures.put c.put-2.ensures.put c.take.ensures.taken in
    let e : line.slots.now ≡ left_in c.args.a c.args.b c.args.area.now = sym (take-append-drop line.count line.slots.now) ∙ h.1 in
    record { answer = h.0; left = search rules }
