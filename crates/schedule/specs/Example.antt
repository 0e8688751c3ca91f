-- A small plan, a layout that fits it, and a run of theirs with every answer but 24.
use Rattle.std.specs.Prelude.{ℕ, cond, List, [], ◌∷◌, Some, None, ◌==◌}
use Rattle.layout_laws.specs.Meaning.{Meaning}
use Rattle.schedule.specs.Work.{Work, over, Sound}
use Rattle.schedule.specs.State.{State, Fresh}
use Rattle.schedule.specs.History.{Asked, request, done, tick, Event, Run}

-- one task, of 1 tick in every 2
abbrev pub one_task : Work
one_task = record { tasks = 1; budget = λ i. 1; period = λ i. 2; bin = λ i. 0; charge = λ i. 500000 }

-- one processor, which always serves bin 0
abbrev pub one_bin : Meaning
one_bin = record { processors = 1; bins = 1; shortest = 2; load = λ p. over one_task p (λ i. 500000); serves = λ t p. cond (p == 0) (Some 0) None }

-- a state of that one task
abbrev pub state : ℕ → ℕ → ℕ → State
state c d l = record { clock = c; deadline = λ i. cond (i == 0) d 0; left = λ i. cond (i == 0) l 0 }

abbrev pub event : Asked → ℕ → List ℕ → Event
event k a row = record { asked = k; answer = a; row = row }

abbrev pub calls : List Event
calls =
    event (request 1) 6 []
    ∷ event (request 0) 0 []
    ∷ event (request 0) 22 []
    ∷ event (tick 1) 0 (0 ∷ [])
    ∷ event (done 0) 23 []
    ∷ event (tick 2) 7 []
    ∷ event (tick 1) 0 (255 ∷ [])
    ∷ event (request 0) 0 []
    ∷ event (done 0) 0 []
    ∷ []

-- the plan fits the layout, the runner is new, and the calls are a run
pub record WorkedRun : Type 0 where
  pub sound : Sound one_task one_bin
  pub fresh : Fresh (state 0 0 0)
  pub run : Run one_task one_bin (state 0 0 0) calls (state 2 4 0)
