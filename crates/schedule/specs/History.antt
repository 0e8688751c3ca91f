-- What was asked of a runner and what came back, the oldest first; jobs and their ends, read off that alone.
use Rattle.std.specs.Prelude.{◌≡◌, ℕ, ◌+◌, ◌<◌, ◌≤◌, Bool, true, false, cond, ◌&&◌, ◌⊎◌, List, [], ◌∷◌, ◌++◌, length, ◌==◌}
use Rattle.layout_laws.specs.Meaning.{Meaning}
use Rattle.schedule.specs.Work.{Work}
use Rattle.schedule.specs.State.{State}
use Rattle.schedule.specs.Steps.{Requested, Ended, Ticked}

-- a call; a tick is told by the length of the row area that it was handed
pub data Asked : Type 0 where
  request : ℕ → Asked
  done : ℕ → Asked
  tick : ℕ → Asked

-- a call with what came back: the answer is 0 or the number of the refusal, and only an accepted tick has a row
pub record Event : Type 0 where
  pub asked : Asked
  pub answer : ℕ
  pub row : List ℕ

abbrev pub row_of : ℕ → List ℕ → List ℕ
row_of answer area = cond (answer == 0) area []

-- one call, as the contracts of the three calls have it
pub data Step (w : Work) (m : Meaning) : State → Event → State → Type 0 where
  requests : {s s' : State} {i a : ℕ} → Requested w s i a s' → Step w m s (record { asked = request i; answer = a; row = [] }) s'
  ends : {s s' : State} {i a : ℕ} → Ended w s i a s' → Step w m s (record { asked = done i; answer = a; row = [] }) s'
  ticks : {s s' : State} {before after : List ℕ} {a : ℕ} → Ticked w m s before a after s' → Step w m s (record { asked = tick (length before); answer = a; row = row_of a after }) s'

-- one call after another
pub data Run (w : Work) (m : Meaning) : State → List Event → State → Type 0 where
  start : {s : State} → Run w m s [] s
  more : {s s' s'' : State} {e : Event} {es : List Event} → Step w m s e s' → Run w m s' es s'' → Run w m s (e ∷ es) s''

abbrev pub asks_request : ℕ → Asked → Bool
asks_request i (request j) = i == j
asks_request i (done j) = false
asks_request i (tick n) = false

abbrev pub asks_done : ℕ → Asked → Bool
asks_done i (request j) = false
asks_done i (done j) = i == j
asks_done i (tick n) = false

abbrev pub asks_tick : Asked → Bool
asks_tick (request j) = false
asks_tick (done j) = false
asks_tick (tick n) = true

-- whether the number stands in the list
abbrev pub holds : ℕ → List ℕ → Bool
holds i [] = false
holds i (x ∷ xs) = cond (i == x) true (holds i xs)

abbrev pub accepted_request : ℕ → Event → Bool
accepted_request i e = e.answer == 0 && asks_request i e.asked

abbrev pub accepted_done : ℕ → Event → Bool
accepted_done i e = e.answer == 0 && asks_done i e.asked

abbrev pub accepted_tick : Event → Bool
accepted_tick e = e.answer == 0 && asks_tick e.asked

-- the row of an event names task i
abbrev pub names : ℕ → Event → Bool
names i e = holds i e.row

-- how many of the events pass a test
abbrev pub many : (Event → Bool) → List Event → ℕ
many f [] = 0
many f (e ∷ es) = cond (f e) 1 0 + many f es

-- the clock after the events: the ticks accepted
abbrev pub clock : List Event → ℕ
clock es = many accepted_tick es

-- the rows that name task i
abbrev pub rows_naming : ℕ → List Event → ℕ
rows_naming i es = many (names i) es

-- nothing follows, or an accepted request for task i
abbrev pub Opens : ℕ → List Event → Type 0
Opens i [] = Unit {0}
Opens i (e ∷ es) = accepted_request i e ≡ true

-- an accepted job of task i in a history: its request, and the events up to the task's next accepted request
pub record Job (es : List Event) (i : ℕ) : Type 0 where
  pub before : List Event
  pub opening : Event
  pub life : List Event
  pub after : List Event
  pub whole : es ≡ before ++ (opening ∷ (life ++ after))
  pub opens : accepted_request i opening ≡ true
  pub alone : many (accepted_request i) life ≡ 0
  pub closes : Opens i after

-- one period after the clock of its request
abbrev pub deadline : {es : List Event} {i : ℕ} → Work → Job es i → ℕ
deadline {es} {i} w j = clock j.before + w.period i

-- as many rows of its life name the task as its budget says, or a done for it was accepted
abbrev pub Finished : {es : List Event} {i : ℕ} → Work → Job es i → Type 0
Finished {es} {i} w j = (w.budget i ≤ rows_naming i j.life) ⊎ (0 < many (accepted_done i) j.life)
