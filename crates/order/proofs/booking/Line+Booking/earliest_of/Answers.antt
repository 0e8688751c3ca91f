use Rattle.std.proofs.Common.{◌≡◌, get_or, rules, subst, sym}
use Rattle.std.specs.Option.{option_map}
use Rattle.order.specs.declared.booking.Booking.{Booking}
use Rattle.order.specs.Bookings.{Earliest}
use Rattle.order.proofs.Dues.{earliest_picked}
use Rattle.order.proofs.booking.Line+Booking.earliest_of.Goals as goal

pub returns : goal.returns
returns c =
    let d : Booking = record { tick = 0; task = 0 } in
    let bs = c.records-bookings.result.now in
    let is : c.map.result ≡ option_map (λ i. get_or bs i d) c.least.result = search rules in
    rw (← c.records-bookings.ensures) (subst (Earliest c.args.task bs) (sym is) (earliest_picked c.args.task bs d c.least.result c.least.ensures.picked))
