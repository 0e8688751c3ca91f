-- Bookings put into a line one after another.
use Rattle.std.proofs.Common.{◌≡◌, ℕ, ◌+◌, ◌<◌, ◌≤◌, true, false, List, length, get_or, take, drop, is_err, Ok, Err, Result, sym, refl, ap, ◌∙◌, arith}
use Rattle.std.proofs.lemmas.List.{length-drop, drop-drop}
use Rattle.std.proofs.lemmas.List.Sums.{fold_more}
use Rattle.std.proofs.lemmas.Bool.{both_ways}
use Rattle.order.specs.contracts.booking.BookingRanked.TheImpl.{ghosts}
use Rattle.order.specs.declared.line.Line.{Line}
use Rattle.order.specs.declared.line.LineRefusal.{LineRefusal}
use Rattle.order.specs.declared.booking.Booking.{Booking}
use Rattle.order.specs.Orders.{placed}
use Rattle.order.specs.Lines.{held, spare, Put}
use Rattle.order.specs.Bookings.{earlier}
use Rattle.booking_desk.specs.Timetable.{arranged}

-- the first i of the wanted bookings went into a line
pub record SoFar (start line : Line Booking ghosts) (wanted : List Booking) (i : ℕ) : Type 0 where
  pub records : held line ≡ arranged (held start) (take i wanted)
  pub free : spare line ≡ drop i (spare start)
  pub within : i ≤ length (spare start)

-- one more
pub one_more : (start line new : Line Booking ghosts) (wanted : List Booking) (i : ℕ) (d : Booking) (r : Result (Unit {0}) LineRefusal) → i < length wanted → is_err r ≡ false → Put (get_or wanted i d) line new r → SoFar start line wanted i → SoFar start new wanted (i + 1)
one_more start line new wanted i d (Ok done) l ok h s = record {
  records = h.records ∙ ap (placed earlier (get_or wanted i d)) s.records ∙ sym (fold_more (λ all b. placed earlier b all) (held start) wanted i d l);
  free = h.free ∙ ap (drop 1) s.free ∙ drop-drop 1 i (spare start);
  within = let n = ap length s.free ∙ length-drop i (spare start) in let m = h.room in omega arith;
}
one_more start line new wanted i d (Err e) l ok h s = elim (both_ways true ok refl) [ ]

-- or no more: the line is full
pub no_more : (start line new : Line Booking ghosts) (wanted : List Booking) (i : ℕ) (b : Booking) (r : Result (Unit {0}) LineRefusal) → is_err r ≡ true → Put b line new r → SoFar start line wanted i → (i ≡ length (spare start)) × SoFar start new wanted i
no_more start line new wanted i b (Ok done) bad h s = elim (both_ways false refl bad) [ ]
no_more start line new wanted i b (Err e) bad h s =
    let n = ap length (sym h.no_room ∙ s.free) ∙ length-drop i (spare start) in
    let w = s.within in
    (omega arith, record { records = h.untouched.records ∙ s.records; free = h.untouched.free ∙ s.free; within = w })
