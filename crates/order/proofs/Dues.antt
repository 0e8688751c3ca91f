-- Bookings in order: what is due, and the earliest of a task.
use Rattle.std.proofs.Common.{◌≡◌, ℕ, zero, suc, ◌<◌, ◌≤◌, false, List, [], ◌∷◌, length, get_or, Some, None, Option, sym, refl, ap, ◌∙◌, subst, suc-le-suc, zero-le, not-suc-le-zero, arith}
use Rattle.std.specs.List.{slice_get}
use Rattle.std.specs.Option.{option_map}
use Rattle.std.proofs.lemmas.Bool.Decides.{nat_tests}
use Rattle.std.proofs.lemmas.Option.{slice_get-get_or, slice_get_within, get_or_from_slice_get}
use Rattle.order.specs.declared.ranking.Ranked.{Ghosts}
use Rattle.order.specs.declared.line.Line.{Line}
use Rattle.order.specs.declared.booking.Booking.{Booking}
use Rattle.order.specs.Orders.{Sorted, without}
use Rattle.order.specs.Picks.{Least, Picked}
use Rattle.order.specs.Lines.{held, Take}
use Rattle.order.specs.Bookings.{earlier, Due, Earliest}

-- what does not come before a booking has no earlier tick
not_earlier : (a b : Booking) → earlier a b ≡ false → b.tick ≤ a.tick
not_earlier a b e = grind (arith, nat_tests)

-- what stands at a place
nth_some : {X : Type 0} (xs : List X) (k : ℕ) (x d : X) → slice_get xs k ≡ Some x → (k < length xs) × (get_or xs k d ≡ x)
nth_some xs k x d e = (slice_get_within xs k x e, get_or_from_slice_get xs k x d e)

-- a list whose first record is b
first_is : {X : Type 0} (xs : List X) (b : X) → slice_get xs 0 ≡ Some b → xs ≡ b ∷ without xs 0
first_is [] b e = cc
first_is (y ∷ ys) b e = let f : y ≡ b = cc in ap (λ z. z ∷ ys) f

-- the first booking is taken, if there is one
pub due_taken : {g : Ghosts Booking} (clock : ℕ) (d : Booking) (old new : Line Booking g) (r : Option Booking) → Sorted earlier (held old) → (get_or (held old) 0 d).tick ≤ clock → Take 0 old new r → Due clock old new r
due_taken clock d old new None up le h = record {
  first_later = λ b e. let i = (nth_some (held old) 0 b d e).0 in let n = h.past in omega arith;
  untouched = h.untouched;
  all_later = λ k d' l. let n = h.past in omega arith;
}
due_taken clock d old new (Some b) up le h =
    let is : held old ≡ b ∷ held new = first_is (held old) b h.was ∙ ap (λ bs. b ∷ bs) (sym h.records) in
    record {
      due = let e = ap (λ x. x.tick) (nth_some (held old) 0 b d h.was).1 in omega arith;
      records = is;
      free = h.free;
      none_earlier = λ k d' l. subst (Sorted earlier) is up 0 (suc k) d' (suc-le-suc zero-le) (suc-le-suc l);
    }

-- in order, all bookings are as late as the first
all_late : (clock : ℕ) (d : Booking) (bs : List Booking) → clock < (get_or bs 0 d).tick → Sorted earlier bs → (k : ℕ) (d' : Booking) → k < length bs → clock < (get_or bs k d').tick
all_late clock d [] late up k d' l = elim (not-suc-le-zero l) [ ]
all_late clock d (b ∷ bs) late up zero d' l = late
all_late clock d (b ∷ bs) late up (suc k) d' l = let h = not_earlier (get_or bs k d') b (up 0 (suc k) d' (suc-le-suc zero-le) l) in omega arith

-- the first booking stays
pub due_none : {g : Ghosts Booking} (clock : ℕ) (d : Booking) (l : Line Booking g) → Sorted earlier (held l) → clock < (get_or (held l) 0 d).tick → Due clock l l None
due_none clock d l up late = record {
  first_later = λ b e. let f = ap (λ x. x.tick) (nth_some (held l) 0 b d e).1 in omega arith;
  untouched = record { records = refl; free = refl };
  all_later = all_late clock d (held l) late up;
}

-- the least booking that bears a task is its earliest
earliest_some : (task : ℕ) (bs : List Booking) (i : ℕ) (d : Booking) → Least earlier (λ b. Some b.task) task bs (length bs) i → Earliest task bs (Some (get_or bs i d))
earliest_some task bs i d h = record {
  place = i;
  there = slice_get-get_or bs i d h.inside;
  of_task = let e = h.bearing d in cc;
  none_earlier = λ k other e f.
      let p = nth_some bs k other d e in
      let b = ap (λ x. Some x.task) p.1 ∙ ap Some f in
      let q = not_earlier (get_or bs k d) (get_or bs i d) (h.least k d p.0 b) in
      let t = ap (λ x. x.tick) p.1 in
      omega arith;
}

earliest_none : (task : ℕ) (bs : List Booking) → Picked earlier (λ b. Some b.task) task bs (length bs) None → Earliest task bs None
earliest_none task bs h k other e f = let p = nth_some bs k other other e in h k other p.0 (ap (λ x. Some x.task) p.1 ∙ ap Some f)

pub earliest_picked : (task : ℕ) (bs : List Booking) (d : Booking) (o : Option ℕ) → Picked earlier (λ b. Some b.task) task bs (length bs) o → Earliest task bs (option_map (λ i. get_or bs i d) o)
earliest_picked task bs d (Some i) h = earliest_some task bs i d h
earliest_picked task bs d None h = earliest_none task bs h
