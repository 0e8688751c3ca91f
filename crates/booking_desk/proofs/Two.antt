-- Two bookings put into a new line, and the first taken out.
use Rattle.std.proofs.Common.{◌≡◌, Bool, true, false, cond, List, [], ◌∷◌, ◌++◌, Option, Result, refl, ap, ◌∙◌}
use Rattle.order.specs.contracts.booking.BookingRanked.TheImpl.{ghosts}
use Rattle.order.specs.declared.line.Line.{Line}
use Rattle.order.specs.declared.line.LineRefusal.{LineRefusal}
use Rattle.order.specs.declared.booking.Booking.{Booking}
use Rattle.order.specs.Orders.{placed}
use Rattle.order.specs.Lines.{held, spare, Put, Take}
use Rattle.order.specs.Bookings.{earlier}
use Rattle.order.proofs.Calls.{put_free, put_full, take_first, take_none}
use Rattle.booking_desk.specs.Timetable.{sooner_of, later_of, handed, left_in}

-- b put in beside a
both_in : (a b : Booking) (t : Bool) → cond t (b ∷ a ∷ []) (a ∷ b ∷ []) ≡ cond t b a ∷ cond t a b ∷ []
both_in a b true = refl
both_in a b false = refl

-- the lines from the new one to the last, over the slots of an area
pub two_put : (a b : Booking) (l₀ l₁ l₂ l₃ : Line Booking ghosts) (r₁ r₂ : Result (Unit {0}) LineRefusal) (r : Option Booking) (area : List Booking) → held l₀ ≡ [] → spare l₀ ≡ area → Put a l₀ l₁ r₁ → Put b l₁ l₂ r₂ → Take 0 l₂ l₃ r → (r ≡ handed a b area) × (held l₃ ++ spare l₃ ≡ left_in a b area)
two_put a b l₀ l₁ l₂ l₃ r₁ r₂ r [] e s h₁ h₂ h =
    let p = put_full l₀ l₁ a r₁ s h₁ in
    let q = put_full l₁ l₂ b r₂ p.1 h₂ in
    let t = take_none l₂ l₃ r (q.0 ∙ p.0 ∙ e) h in
    (t.0, ap (λ xs. xs ++ spare l₃) t.1 ∙ t.2 ∙ q.1)
two_put a b l₀ l₁ l₂ l₃ r₁ r₂ r (x ∷ []) e s h₁ h₂ h =
    let p = put_free l₀ l₁ a x [] r₁ s h₁ in
    let q = put_full l₁ l₂ b r₂ p.1 h₂ in
    let t = take_first l₂ l₃ a [] r (q.0 ∙ p.0 ∙ ap (placed earlier a) e) h in
    (t.0, ap (λ xs. xs ++ spare l₃) t.1 ∙ t.2 ∙ ap (λ xs. a ∷ xs) q.1)
two_put a b l₀ l₁ l₂ l₃ r₁ r₂ r (x ∷ y ∷ rest) e s h₁ h₂ h =
    let p = put_free l₀ l₁ a x (y ∷ rest) r₁ s h₁ in
    let q = put_free l₁ l₂ b y rest r₂ p.1 h₂ in
    let t = take_first l₂ l₃ (sooner_of a b) (later_of a b ∷ []) r (q.0 ∙ ap (placed earlier b) (p.0 ∙ ap (placed earlier a) e) ∙ both_in a b (earlier b a)) h in
    (t.0, ap (λ xs. xs ++ spare l₃) t.1 ∙ ap (λ xs. later_of a b ∷ xs) (t.2 ∙ ap (λ xs. sooner_of a b ∷ xs) q.1))
