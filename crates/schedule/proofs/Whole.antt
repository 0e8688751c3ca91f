-- Every job of every run: within its budget and on time; and the promise, whole.
use Rattle.std.proofs.Common.{◌≡◌, ℕ, ◌<◌, ◌≤◌, List, [], ◌∷◌, ◌++◌, refl, subst, inl, inr, ⊎_elim, arith}
use Rattle.std.proofs.lemmas.Bool.{cases_lt}
use Rattle.layout_laws.specs.Meaning.{Meaning, horizon}
use Rattle.schedule.specs.Work.{Work, Sound}
use Rattle.schedule.specs.State.{State, Fresh}
use Rattle.schedule.specs.Steps.{Opened}
use Rattle.schedule.specs.History.{Event, Step, Run, start, more, accepted_request, accepted_done, many, clock, rows_naming, Opens, Job, deadline, Finished}
use Rattle.schedule.specs.Promise.{Kept}
use Rattle.schedule.proofs.Moves.{moved}
use Rattle.schedule.proofs.Rows.{one_each}
use Rattle.schedule.proofs.Isolated.{isolated}
use Rattle.schedule.proofs.Pending.{none_left}
use Rattle.schedule.proofs.Bound.{Bound, bound_fresh, bound_moved, nothing_due}
use Rattle.schedule.proofs.Lives.{run_clock, run_horizon, uncons, split, join, opened_by, Lived, lived}

bound_run : {w : Work} {m : Meaning} {s s' : State} {es : List Event} (p d : ℕ) → Run w m s es s' → Bound w m p d s → Bound w m p d s'
bound_run p d start b = b
bound_run {w} {m} p d (more st r) b = bound_run p d r (bound_moved w m p d (moved st) b)

module _ {w : Work} {m : Meaning} (sound : Sound w m) {s : State} (fresh : Fresh s) where
  -- a task whose latest deadline has come has nothing left
  punctual : {s' : State} {es : List Event} → Run w m s es s' → (i : ℕ) → i < w.tasks → s'.deadline i ≤ s'.clock → s'.left i ≡ 0
  punctual {s'} r i l h =
      let p = w.bin i in
      let d = s'.clock in
      let in_time : s'.clock ≤ horizon = run_horizon r (omega (arith, fresh.clock)) in
      none_left w p d s' i l refl h (nothing_due sound p s' (bound_run p d r (bound_fresh w m p d fresh)) in_time)

  -- a task of which no request was accepted is in no row
  pub only_asked : {s' : State} {es : List Event} → Run w m s es s' → (i : ℕ) → i < 255 → many (accepted_request i) es ≡ 0 → rows_naming i es ≡ 0
  only_asked r i small none = omega (arith, (lived i small sound.exclusive r none).most, fresh.left i)

  -- the states about one job
  record Around {es : List Event} {i : ℕ} (j : Job es i) (s' : State) : Type 0 where
    asked : State
    opened : State
    over : State
    first : Run w m s j.before asked
    step : Step w m asked j.opening opened
    middle : Run w m opened j.life over
    last : Run w m over j.after s'

  around : {s' : State} {es : List Event} {i : ℕ} → Run w m s es s' → (j : Job es i) → Around j s'
  around {s'} r j =
      let whole : Run w m s (j.before ++ (j.opening ∷ (j.life ++ j.after))) s' = subst (λ (x : List Event). Run w m s x s') j.whole r in
      let a = split j.before (j.opening ∷ (j.life ++ j.after)) whole in
      let b = uncons a.2 in
      let c = split j.life j.after b.2 in
      record { asked = a.0; opened = b.0; over = c.0; first = a.1; step = b.1; middle = c.1; last = c.2 }

  module _ {s' : State} {es : List Event} {i : ℕ} (r : Run w m s es s') (j : Job es i) where
    begins : (i < w.tasks) × ((around r j).asked.deadline i ≤ (around r j).asked.clock) × Opened w (around r j).asked i (around r j).opened
    begins = opened_by i (moved (around r j).step) j.opens

    lives : Lived i (around r j).opened j.life (around r j).over
    lives = lived i (omega (arith, begins.0, sound.few)) sound.exclusive (around r j).middle j.alone

    pub within_budget : rows_naming i j.life ≤ w.budget i
    within_budget = omega (arith, lives.most, begins.2.left)

    -- once the job's life is over, or its deadline has come, the deadline is past
    due_then : deadline w j ≤ clock es → (after : List Event) → Opens i after → Run w m (around r j).over after s' → (around r j).over.deadline i ≤ (around r j).over.clock
    due_then h [] o l =
        omega (arith, run_clock l, run_clock r, run_clock (around r j).first, fresh.clock, lives.deadline, begins.2.deadline)
    due_then h (e ∷ after) o l = (opened_by i (moved (uncons l).1) o).1

    pub on_time : deadline w j ≤ clock es → Finished w j
    on_time h =
        let x = around r j in
        let late = due_then h j.after j.closes x.last in
        let none = punctual (join x.first (more x.step x.middle)) i begins.0 late in
        ⊎_elim
        (λ (k : 0 < many (accepted_done i) j.life). inr k)
        (λ (k : many (accepted_done i) j.life ≤ 0). inl (omega (arith, lives.full (omega arith), begins.2.left)))
        (cases_lt 0 (many (accepted_done i) j.life))

pub kept : (w : Work) (m : Meaning) → Sound w m → (s : State) → Fresh s → Kept w m s
kept w m sound s fresh =
    record {
      on_time = λ es s' r i j. on_time sound fresh r j;
      within_budget = λ es s' r i j. within_budget sound fresh r j;
      only_asked = λ es s' r i small none. only_asked sound fresh r i small none;
      one_each = λ es s' r. one_each r;
      isolated = λ m' same s₂ fresh₂ p es es' t t' r r' h. isolated w p sound.few same es es' fresh fresh₂ r r' h;
    }
