-- One call of a runner, by what it answers and what it leaves.
use Rattle.std.specs.Prelude.{◌≡◌, ℕ, ◌+◌, ◌-◌, ◌<◌, ◌≤◌, ◌⊎◌, List, length, Some, ◌≢◌, slice_index_or}
use Rattle.layout_laws.specs.Meaning.{Meaning, horizon}
use Rattle.schedule.specs.Work.{Work}
use Rattle.schedule.specs.State.{State, Stays, Unchanged}

-- task i has a new job
pub record Opened (w : Work) (s : State) (i : ℕ) (s' : State) : Type 0 where
  pub clock : s'.clock ≡ s.clock
  pub deadline : s'.deadline i ≡ s.clock + w.period i
  pub left : s'.left i ≡ w.budget i
  pub others : (j : ℕ) → (j ≢ i) → Stays s s' j

-- a request for task i, and its answer
pub record Requested (w : Work) (s : State) (i answer : ℕ) (s' : State) : Type 0 where
  pub unknown : w.tasks ≤ i → (answer ≡ 6) × Unchanged s s'
  pub early : i < w.tasks → s.clock < s.deadline i → (answer ≡ 22) × Unchanged s s'
  pub accepted : i < w.tasks → s.deadline i ≤ s.clock → (answer ≡ 0) × Opened w s i s'

-- the job of task i is over
pub record Closed (s : State) (i : ℕ) (s' : State) : Type 0 where
  pub clock : s'.clock ≡ s.clock
  pub deadline : s'.deadline i ≡ s.deadline i
  pub left : s'.left i ≡ 0
  pub others : (j : ℕ) → (j ≢ i) → Stays s s' j

-- a done for task i, and its answer
pub record Ended (w : Work) (s : State) (i answer : ℕ) (s' : State) : Type 0 where
  pub unknown : w.tasks ≤ i → (answer ≡ 6) × Unchanged s s'
  pub none : i < w.tasks → s.left i ≡ 0 → (answer ≡ 23) × Unchanged s s'
  pub accepted : i < w.tasks → 0 < s.left i → (answer ≡ 0) × Closed s i s'

-- task i is the one that bin p runs: unfinished, and the least by deadline, then by number
pub record Chosen (w : Work) (s : State) (p i : ℕ) : Type 0 where
  pub known : i < w.tasks
  pub own : w.bin i ≡ p
  pub unfinished : 0 < s.left i
  pub first : (j : ℕ) → j < w.tasks → w.bin j ≡ p → 0 < s.left j → (s.deadline i < s.deadline j) ⊎ ((s.deadline i ≡ s.deadline j) × (i ≤ j))

-- processor q runs task i in the tick at the clock
pub record Runs (w : Work) (m : Meaning) (s : State) (q i : ℕ) : Type 0 where
  pub bin : ℕ
  pub served : m.serves s.clock bin ≡ Some q
  pub chosen : Chosen w s bin i

-- some processor runs task i
pub record Running (w : Work) (m : Meaning) (s : State) (i : ℕ) : Type 0 where
  pub processor : ℕ
  pub runs : Runs w m s processor i

-- the row of the tick at the clock: a task where one runs, and 255 where none does
pub record Row (w : Work) (m : Meaning) (s : State) (row : List ℕ) : Type 0 where
  pub wide : length row ≡ m.processors
  pub busy : (q i : ℕ) → Runs w m s q i → slice_index_or row q 255 ≡ i
  pub idle : (q : ℕ) → ((i : ℕ) → Runs w m s q i → ⊥) → slice_index_or row q 255 ≡ 255

-- what an accepted tick leaves: a tick less of each job that ran
pub record Advanced (w : Work) (m : Meaning) (s : State) (s' : State) : Type 0 where
  pub clock : s'.clock ≡ s.clock + 1
  pub deadline : (i : ℕ) → s'.deadline i ≡ s.deadline i
  pub worked : (i : ℕ) → Running w m s i → s'.left i ≡ s.left i - 1
  pub kept : (i : ℕ) → (Running w m s i → ⊥) → s'.left i ≡ s.left i

-- a tick and its answer; area and area' are the row area before and after
pub record Ticked (w : Work) (m : Meaning) (s : State) (area : List ℕ) (answer : ℕ) (area' : List ℕ) (s' : State) : Type 0 where
  pub misfit : (length area ≢ m.processors) → (answer ≡ 7) × (area' ≡ area) × Unchanged s s'
  pub over : length area ≡ m.processors → horizon ≤ s.clock → (answer ≡ 24) × (area' ≡ area) × Unchanged s s'
  pub accepted : length area ≡ m.processors → s.clock < horizon → (answer ≡ 0) × Row w m s area' × Advanced w m s s'
