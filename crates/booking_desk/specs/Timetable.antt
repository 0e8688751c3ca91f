-- Bookings put in order one after another, and the sooner of two.
use Rattle.std.specs.Prelude.{if◌then◌else◌, List, [], ◌∷◌, Some, None, fold, Option}
use Rattle.order.specs.declared.booking.Booking.{Booking}
use Rattle.order.specs.Orders.{placed}
use Rattle.order.specs.Bookings.{earlier}

-- bookings in order, once those of a second list were put in among them, each after its equals
abbrev pub arranged : List Booking → List Booking → List Booking
arranged done bs = fold (λ all b. placed earlier b all) done bs

-- the sooner of two bookings, the first of equals, and the other one
abbrev pub sooner_of : Booking → Booking → Booking
sooner_of a b = if earlier b a then b else a

abbrev pub later_of : Booking → Booking → Booking
later_of a b = if earlier b a then a else b

-- which of two bookings is handed out by way of an area: it may have slots for none or one of them
abbrev pub handed : Booking → Booking → List Booking → Option Booking
handed a b [] = None
handed a b (x ∷ []) = Some a
handed a b (x ∷ y ∷ rest) = Some (sooner_of a b)

-- what the area then holds: what is left, what was handed out, and what lay past them
abbrev pub left_in : Booking → Booking → List Booking → List Booking
left_in a b [] = []
left_in a b (x ∷ []) = a ∷ []
left_in a b (x ∷ y ∷ rest) = later_of a b ∷ sooner_of a b ∷ rest
