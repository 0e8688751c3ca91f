-- The job table of a runner, and the state that it stands for.
use Rattle.std.specs.Prelude.{◌≡◌, ℕ, ◌-◌, ◌<◌, ◌≤◌, Bool, cond, List, Some, None, Option, ◌==◌, nat_lt, slice_index_or}
use Rattle.schedule.specs.State.{State}
use Rattle.schedule.specs.Work.{Work}
use Rattle.runner.specs.declared.job.Job.{Job}

-- no job
abbrev pub none : Job
none = record { bin = 0; deadline = 0; left = 0 }

-- by deadline; of equals the first is picked, which has the lower task number
abbrev pub sooner : Job → Job → Bool
sooner a b = nat_lt a.deadline b.deadline

-- an unfinished job is there to be run, in its bin
abbrev pub to_run : Job → Option ℕ
to_run j = cond (j.left == 0) None (Some j.bin)

-- a job once it ran for a tick
abbrev pub worked : Job → Job
worked j = record { bin = j.bin; deadline = j.deadline; left = j.left - 1 }

-- the state at a clock, the latest jobs of the tasks being these
abbrev pub state : ℕ → List Job → State
state c js = record { clock = c; deadline = λ i. (slice_index_or js i none).deadline; left = λ i. (slice_index_or js i none).left }

-- the table has each task in its bin, and no job of a task that is not there
pub record Holds (w : Work) (js : List Job) : Type 0 where
  pub few : w.tasks ≤ 64
  pub bins : (i : ℕ) → i < w.tasks → (slice_index_or js i none).bin ≡ w.bin i
  pub rest : (i : ℕ) → w.tasks ≤ i → (slice_index_or js i none).left ≡ 0

-- each task stays in its bin
abbrev pub SameBins : List Job → List Job → Type 0
SameBins js js' = (i : ℕ) → (slice_index_or js' i none).bin ≡ (slice_index_or js i none).bin
