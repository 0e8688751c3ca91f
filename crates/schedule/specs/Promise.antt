-- What every run keeps, whatever is asked in whatever order.
use Rattle.std.specs.Prelude.{◌≡◌, ℕ, suc, ◌<◌, ◌≤◌, Bool, true, cond, ◌&&◌, List, [], ◌∷◌, map, length, ◌==◌, nat_lt, slice_index_or}
use Rattle.std.specs.List.{AllByRecursion}
use Rattle.layout_laws.specs.Meaning.{Meaning}
use Rattle.schedule.specs.Work.{Work, Sound}
use Rattle.schedule.specs.State.{State, Fresh}
use Rattle.schedule.specs.History.{Asked, request, done, tick, Event, Run, Job, accepted_request, many, clock, deadline, Finished, rows_naming}

-- a job whose deadline the clock has come to is finished
abbrev pub OnTime : Work → List Event → Type 0
OnTime w es = (i : ℕ) (j : Job es i) → deadline w j ≤ clock es → Finished w j

-- no job in more rows than its budget
abbrev pub WithinBudget : Work → List Event → Type 0
WithinBudget w es = (i : ℕ) (j : Job es i) → rows_naming i j.life ≤ w.budget i

-- no row names a task of which no request was accepted
abbrev pub OnlyAsked : List Event → Type 0
OnlyAsked es = (i : ℕ) → i < 255 → many (accepted_request i) es ≡ 0 → rows_naming i es ≡ 0

-- two places of a row that name tasks of one bin are one place
abbrev pub OneEach : Work → Event → Type 0
OneEach w e = (q q' : ℕ) → q < length e.row → q' < length e.row → slice_index_or e.row q 255 < 255 → slice_index_or e.row q' 255 < 255 → w.bin (slice_index_or e.row q 255) ≡ w.bin (slice_index_or e.row q' 255) → q ≡ q'

-- a tick, or a call for a task of bin p
abbrev pub of_bin : Work → ℕ → Asked → Bool
of_bin w p (request i) = nat_lt i w.tasks && w.bin i == p
of_bin w p (done i) = nat_lt i w.tasks && w.bin i == p
of_bin w p (tick n) = true

-- the ticks, and what was asked for the tasks of one bin
abbrev pub about : Work → ℕ → List Event → List Event
about w p [] = []
about w p (e ∷ es) = cond (of_bin w p e.asked) (e ∷ about w p es) (about w p es)

-- the entries of one bin in a row, each with its processor, counted from q
abbrev pub entries : Work → ℕ → ℕ → List ℕ → List (ℕ × ℕ)
entries w p q [] = []
entries w p q (x ∷ xs) = cond (nat_lt x w.tasks && w.bin x == p) ((q, x) ∷ entries w p (suc q) xs) (entries w p (suc q) xs)

-- what was asked of bin p
abbrev pub asked_of : Work → ℕ → List Event → List Asked
asked_of w p es = map (λ e. e.asked) (about w p es)

-- a call with its answer and with the entries of one bin
pub record Seen : Type 0 where
  pub asked : Asked
  pub answer : ℕ
  pub entries : List (ℕ × ℕ)

-- what bin p sees of an event
abbrev pub seen : Work → ℕ → Event → Seen
seen w p e = record { asked = e.asked; answer = e.answer; entries = entries w p 0 e.row }

-- what bin p sees of a history
abbrev pub seen_of : Work → ℕ → List Event → List Seen
seen_of w p es = map (seen w p) (about w p es)

-- the layouts lay out the same, of whatever types they are
pub record Same (m m' : Meaning) : Type 0 where
  pub processors : m.processors ≡ m'.processors
  pub serves : (t p : ℕ) → m.serves t p ≡ m'.serves t p

-- what the runs from state s keep; `isolated` compares them with the runs of another new runner of the plan
pub record Kept (w : Work) (m : Meaning) (s : State) : Type 0 where
  pub on_time : (es : List Event) (s' : State) → Run w m s es s' → OnTime w es
  pub within_budget : (es : List Event) (s' : State) → Run w m s es s' → WithinBudget w es
  pub only_asked : (es : List Event) (s' : State) → Run w m s es s' → OnlyAsked es
  pub one_each : (es : List Event) (s' : State) → Run w m s es s' → AllByRecursion (OneEach w) es
  pub isolated : (m' : Meaning) → Same m m' → (s₂ : State) → Fresh s₂ → (p : ℕ) (es es' : List Event) (t t' : State) → Run w m s es t → Run w m' s₂ es' t' → asked_of w p es ≡ asked_of w p es' → seen_of w p es ≡ seen_of w p es'

-- the promise: every run of a plan that fits, from the start
abbrev pub Promise : Type 0
Promise = (w : Work) (m : Meaning) → Sound w m → (s : State) → Fresh s → Kept w m s
