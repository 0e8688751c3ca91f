use Rattle.std.proofs.Common.{◌<◌, length, get_or, rules, sym, arith}
use Rattle.order.specs.declared.booking.Booking.{Booking}
use Rattle.booking_desk.proofs.Arranging.{one_more, no_more}
use Rattle.booking_desk.proofs.put_all.Goals as goal

pub loop-i-preserved : goal.loop-i-preserved
loop-i-preserved c =
    let d : Booking = record { tick = 0; task = 0 } in
    let l : c.loop-i.i < length c.args.wanted.now = omega arith in (
      one_more c.args.line.now c.loop-i.line c.put.new.self c.args.wanted.now c.loop-i.i d c.put.result l (sym c.if-is_err.ensures.value) c.put.ensures.put c.loop-i.invariant.0,
      search rules,
    )

pub returns-then-is_err : goal.returns-then-is_err
returns-then-is_err c =
    let d : Booking = record { tick = 0; task = 0 } in
    let b = get_or c.args.wanted.now c.loop-i.i d in
    let h = no_more c.args.line.now c.loop-i.line c.put.new.self c.args.wanted.now c.loop-i.i b c.put.result (sym c.if-is_err.ensures.value) c.put.ensures.put c.loop-i.invariant.0 in
    let n = h.0 in
    record {
      slots = search rules;
      count = omega arith;
      records = h.1.records;
      free = h.1.free;
    }
