-- Bookings: their order, the one that is due, and the earliest of a task.
use Rattle.std.specs.Prelude.{◌≡◌, ℕ, ◌<◌, ◌≤◌, Bool, false, if◌then◌else◌, List, ◌∷◌, length, Some, None, Option, ◌==◌, ◌≢◌, nat_lt, slice_index_or}
use Rattle.std.specs.List.{slice_get}
use Rattle.order.specs.declared.line.Line.{Line}
use Rattle.order.specs.declared.booking.Booking.{Booking}
use Rattle.order.specs.declared.ranking.Ranked.{Ghosts}
use Rattle.order.specs.Lines.{held, spare, Untouched}

-- by tick, then by task
abbrev pub earlier : Booking → Booking → Bool
earlier a b = if a.tick == b.tick then nat_lt a.task b.task else nat_lt a.tick b.tick

-- lines of bookings
module _ {g : Ghosts Booking} where
  -- b was the first booking and is due at the clock, so it was taken; the slot that fell free holds it
  pub record TakenDue (clock : ℕ) (b : Booking) (old new : Line Booking g) : Type 0 where
    pub due : b.tick ≤ clock
    pub records : held old ≡ b ∷ held new
    pub free : spare new ≡ b ∷ spare old
    pub none_earlier : (k : ℕ) (d : Booking) → k < length (held new) → earlier (slice_index_or (held new) k d) b ≡ false

  -- the first booking, if there is one, is not due, so none is, and nothing was taken
  pub record NoneDue (clock : ℕ) (old new : Line Booking g) : Type 0 where
    pub first_later : (b : Booking) → slice_get (held old) 0 ≡ Some b → clock < b.tick
    pub untouched : Untouched old new
    pub all_later : (k : ℕ) (d : Booking) → k < length (held old) → clock < (slice_index_or (held old) k d).tick

  -- what is taken at a clock, and what is left
  abbrev pub Due : ℕ → Line Booking g → Line Booking g → Option Booking → Type 0
  Due clock old new (Some b) = TakenDue clock b old new
  Due clock old new None = NoneDue clock old new

-- b is a booking of the task, and no booking of the task has an earlier tick
pub record EarliestIs (task : ℕ) (bs : List Booking) (b : Booking) : Type 0 where
  pub place : ℕ
  pub there : slice_get bs place ≡ Some b
  pub of_task : b.task ≡ task
  pub none_earlier : (k : ℕ) (other : Booking) → slice_get bs k ≡ Some other → other.task ≡ task → b.tick ≤ other.tick

-- the earliest booking of a task, or none where the task has no booking
abbrev pub Earliest : ℕ → List Booking → Option Booking → Type 0
Earliest task bs (Some b) = EarliestIs task bs b
Earliest task bs None = (k : ℕ) (other : Booking) → slice_get bs k ≡ Some other → other.task ≢ task
