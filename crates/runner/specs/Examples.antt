-- A worked run: two tasks of 1 tick in every 4 on one processor, flat.
use Rattle.std.specs.Prelude.{ℕ, List, [], ◌∷◌}
use Rattle.plan.specs.Closing.{Planned}
use Rattle.plan.specs.Examples.{quarters, Worked}
use Rattle.layout_laws.specs.Meaning.{Meaning}
use Rattle.layout.specs.Makes.{flat_of}
use Rattle.layout.specs.Examples.{plan_on, WorkedLayouts}
use Rattle.schedule.specs.Work.{Work}
use Rattle.schedule.specs.State.{State, Fresh}
use Rattle.schedule.specs.History.{Asked, request, tick, Event, Run}
use Rattle.runner.specs.Jobs.{state}
use Rattle.runner.specs.Views.{work}

abbrev pub the_plan : Planned
the_plan = plan_on 1 quarters

abbrev pub the_tasks : Work
the_tasks = work the_plan 2

-- its one bin is served in ticks 0, 1 and 2 of every 4
abbrev pub the_layout : Meaning
the_layout = flat_of the_plan

-- the clock, and deadline and ticks left of both tasks' jobs
abbrev pub both : ℕ → ℕ → ℕ → ℕ → ℕ → State
both c d l d' l' = state c (record { bin = 0; deadline = d; left = l } ∷ record { bin = 0; deadline = d'; left = l' } ∷ [])

abbrev pub event : Asked → ℕ → List ℕ → Event
event asked answer row = record { asked = asked; answer = answer; row = row }

-- both are requested at clock 3, in a tick without service; task 0 may come again at clock 7, and not at 6
abbrev pub calls : List Event
calls =
    event (tick 1) 0 (255 ∷ [])
    ∷ event (tick 1) 0 (255 ∷ [])
    ∷ event (tick 1) 0 (255 ∷ [])
    ∷ event (request 0) 0 []
    ∷ event (request 1) 0 []
    ∷ event (tick 1) 0 (255 ∷ [])
    ∷ event (tick 1) 0 (0 ∷ [])
    ∷ event (tick 1) 0 (1 ∷ [])
    ∷ event (request 0) 22 []
    ∷ event (tick 1) 0 (255 ∷ [])
    ∷ event (request 0) 0 []
    ∷ []

-- the worked cases of all layers
pub record WorkedCases : Type 0 where
  pub plans : Worked
  pub layouts : WorkedLayouts
  pub fresh : Fresh (both 0 0 0 0 0)
  pub run : Run the_tasks the_layout (both 0 0 0 0 0) calls (both 7 11 1 7 0)
