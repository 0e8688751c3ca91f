-- The tasks of a plan as numbers, and what holds of them and of a layout that fits the plan.
use Rattle.std.specs.Prelude.{◌≡◌, ℕ, ◌*◌, ◌<◌, ◌≤◌, cond, ◌==◌}
use Rattle.plan.specs.Laws.{total}
use Rattle.plan.specs.Method.{full}
use Rattle.layout_laws.specs.Meaning.{Meaning, Exclusive, Supplies}

-- tasks are numbered from 0; `bin i` is the bin of task i, `charge i` its charge
pub record Work : Type 0 where
  pub tasks : ℕ
  pub budget : ℕ → ℕ
  pub period : ℕ → ℕ
  pub bin : ℕ → ℕ
  pub charge : ℕ → ℕ

-- f of a task of bin p, and 0 of any other
abbrev pub own : Work → ℕ → (ℕ → ℕ) → ℕ → ℕ
own w p f i = cond (w.bin i == p) (f i) 0

-- f summed over the tasks of bin p
abbrev pub over : Work → ℕ → (ℕ → ℕ) → ℕ
over w p f = total w.tasks (own w p f)

-- a task: its period is not below the shortest, its charge not below its share
pub record SoundTask (w : Work) (m : Meaning) (i : ℕ) : Type 0 where
  pub some : 1 ≤ w.budget i
  pub room : w.budget i ≤ w.period i
  pub long : m.shortest ≤ w.period i
  pub charged : w.budget i * full ≤ w.charge i * w.period i

-- the layout keeps its laws, and its loads are those of the tasks
pub record Sound (w : Work) (m : Meaning) : Type 0 where
  pub few : w.tasks ≤ 64
  pub each : (i : ℕ) → i < w.tasks → SoundTask w m i
  pub loads : (p : ℕ) → m.load p ≡ over w p w.charge
  pub exclusive : Exclusive m
  pub supplies : Supplies m
