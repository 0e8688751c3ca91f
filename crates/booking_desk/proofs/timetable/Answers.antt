use Rattle.std.proofs.Common.{◌≡◌, [], ◌++◌, take, drop, ap, ◌∙◌, rules}
use Rattle.std.proofs.lemmas.List.{take-append-drop}
use Rattle.order.specs.Lines.{held, spare}
use Rattle.booking_desk.specs.Timetable.{arranged}
use Rattle.booking_desk.proofs.timetable.Goals as goal

pub returns-clause-written : goal.returns-clause-written
returns-clause-written c =
    let line = c.put_all.new.line in
    let r = c.put_all.result in
    let p : held line ≡ arranged [] (take r c.args.wanted.now) = c.put_all.ensures.records ∙ ap (λ done. arranged done (take r c.args.wanted.now)) c.new-line.ensures.empty in
    let q : spare line ≡ drop r c.args.area.now = c.put_all.ensures.free ∙ ap (drop r) c.new-line.ensures.free in
    let w = take-append-drop line.count line.slots.now in
    let e : line.slots.now ≡ arranged [] (take r c.args.wanted.now) ++ drop r c.args.area.now = cc in
    search rules
