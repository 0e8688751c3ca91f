-- What a runner's memory stands for.
use Rattle.std.specs.Prelude.{◌≡◌, ℕ, ◌<◌, ◌≤◌, [], Some, None, Option, slice_index, slice_index_or}
use Rattle.plan.specs.declared.row.Row.{Row}
use Rattle.plan.specs.Closing.{Planned, charges_of}
use Rattle.plan.specs.Rows.{Task}
use Rattle.plan.specs.Plans.{planned}
use Rattle.schedule.specs.State.{State}
use Rattle.schedule.specs.Work.{Work}
use Rattle.runner.specs.declared.runner.Runner.{Runner}
use Rattle.runner.specs.Jobs.{state}

-- no task
abbrev pub nobody : Task
nobody = record { budget = 0; period = 0; name = [] }

-- the first n tasks of a plan
abbrev pub work : Planned → ℕ → Work
work p n = record { tasks = n; budget = λ i. (slice_index_or p.tasks i nobody).budget; period = λ i. (slice_index_or p.tasks i nobody).period; bin = λ i. slice_index p.bins i; charge = λ i. slice_index (charges_of p.tasks) i }

-- the tasks that a runner runs
abbrev pub work_of : {X : Type 0} → Runner X → Work
work_of r = work (planned r.plan) r.tasks

-- the clock and the jobs of a runner
abbrev pub state_of : {X : Type 0} → Runner X → State
state_of r = state r.clock r.jobs.slots

-- a call alters neither the plan nor the layout
pub record SamePlan {X : Type 0} (old new : Runner X) : Type 0 where
  pub plan : new.plan ≡ old.plan
  pub layout : new.layout ≡ old.layout
  pub tasks : new.tasks ≡ old.tasks

-- the row of a task, or none where there is no such task
abbrev pub RowOf : Work → ℕ → Option Row → Type 0
RowOf w i (Some row) = (i < w.tasks) × (row.budget ≡ w.budget i) × (row.period ≡ w.period i)
RowOf w i None = w.tasks ≤ i
