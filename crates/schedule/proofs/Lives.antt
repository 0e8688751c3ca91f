-- The state that a run leads to, told by its history: the clock, and what is left of a task's latest job.
use Rattle.std.proofs.Common.{◌≡◌, ℕ, ◌+◌, ◌<◌, ◌≤◌, Bool, true, false, cond, ◌&&◌, eqb, List, [], ◌∷◌, ◌++◌, sym, refl, ◌∙◌, subst, ⊎_elim, arith}
use Rattle.std.proofs.lemmas.Bool.{cases_eq, cases_Bool, eqb-true, eqb-false, and_parts, and_left, cond-true, cond-false, both_ways, false≢true}
use Rattle.layout_laws.specs.Meaning.{Meaning, Exclusive, horizon}
use Rattle.schedule.specs.Work.{Work}
use Rattle.schedule.specs.State.{State, Stays}
use Rattle.schedule.specs.Steps.{Opened}
use Rattle.schedule.specs.History.{Event, Step, Run, start, more, asks_request, asks_tick, holds, accepted_request, accepted_done, accepted_tick, names, many, clock, rows_naming}
use Rattle.schedule.proofs.Moves.{Move, quiet, opening, closing, ticking, moved}
use Rattle.schedule.proofs.Rows.{named_works, unnamed_stays}

-- the clock
move_clock : {w : Work} {m : Meaning} {s s' : State} {e : Event} → Move w m s e s' → s'.clock ≡ s.clock + cond (accepted_tick e) 1 0
move_clock (quiet {k = k} {a = a} z u) = rw (cond-false {A = ℕ} (eqb a 0 && asks_tick k) 1 0 (and_left (eqb a 0) (asks_tick k) z)) (omega (arith, u.clock))
move_clock (opening l h o) = omega (arith, o.clock)
move_clock (closing l h c) = omega (arith, c.clock)
move_clock (ticking l r a) = a.clock

pub run_clock : {w : Work} {m : Meaning} {s s' : State} {es : List Event} → Run w m s es s' → s'.clock ≡ s.clock + clock es
run_clock start = omega arith
run_clock (more st r) = omega (arith, move_clock (moved st), run_clock r)

move_horizon : {w : Work} {m : Meaning} {s s' : State} {e : Event} → Move w m s e s' → s.clock ≤ horizon → s'.clock ≤ horizon
move_horizon (quiet z u) k = omega (arith, u.clock)
move_horizon (opening l h o) k = omega (arith, o.clock)
move_horizon (closing l h c) k = omega (arith, c.clock)
move_horizon (ticking l r a) k = omega (arith, a.clock)

pub run_horizon : {w : Work} {m : Meaning} {s s' : State} {es : List Event} → Run w m s es s' → s.clock ≤ horizon → s'.clock ≤ horizon
run_horizon start k = k
run_horizon (more st r) k = run_horizon r (move_horizon (moved st) k)

-- a run in parts
pub uncons : {w : Work} {m : Meaning} {s t : State} {e : Event} {es : List Event} → Run w m s (e ∷ es) t → (u : State) × Step w m s e u × Run w m u es t
uncons (more {s' = u} st r) = (u, st, r)

pub split : {w : Work} {m : Meaning} (xs ys : List Event) {s t : State} → Run w m s (xs ++ ys) t → (u : State) × Run w m s xs u × Run w m u ys t
split [] ys {s = s} r = (s, start, r)
split (x ∷ xs) ys r =
    let h = uncons r in
    let k = split xs ys h.2 in
    (k.0, more h.1 k.1, k.2)

pub join : {w : Work} {m : Meaning} {s t u : State} {xs ys : List Event} → Run w m s xs u → Run w m u ys t → Run w m s (xs ++ ys) t
join start r' = r'
join (more st r) r' = more st (join r r')

-- an accepted request, by the history
pub opened_by : {w : Work} {m : Meaning} {s s' : State} {e : Event} (i : ℕ) → Move w m s e s' → accepted_request i e ≡ true → (i < w.tasks) × (s.deadline i ≤ s.clock) × Opened w s i s'
opened_by i (quiet {k = k} {a = a} z u) y = absurd (both_ways (eqb a 0) z (and_parts (eqb a 0) (asks_request i k) y).0)
opened_by {w} i (opening {s} {s'} {i = j} l h o) y =
    subst (λ (x : ℕ). (x < w.tasks) × (s.deadline x ≤ s.clock) × Opened w s x s') (sym (eqb-true i j y)) (l, h, o)
opened_by i (closing l h c) y = absurd (false≢true y)
opened_by i (ticking l r a) y = absurd (false≢true y)

-- the job of task i over some events without an accepted request for it
pub record Lived (i : ℕ) (s : State) (es : List Event) (t : State) : Type 0 where
  pub deadline : t.deadline i ≡ s.deadline i
  pub most : rows_naming i es + t.left i ≤ s.left i
  pub full : many (accepted_done i) es ≡ 0 → s.left i ≤ rows_naming i es + t.left i

record LivedOne (i : ℕ) (s : State) (e : Event) (t : State) : Type 0 where
  deadline : t.deadline i ≡ s.deadline i
  most : cond (names i e) 1 0 + t.left i ≤ s.left i
  full : accepted_done i e ≡ false → s.left i ≤ cond (names i e) 1 0 + t.left i

lived_unnamed : {i : ℕ} {s t : State} {e : Event} → Stays s t i → names i e ≡ false → LivedOne i s e t
lived_unnamed {i} {s} {t} {e} h n =
    let l = h.left in
    let z = cond-false {A = ℕ} (names i e) 1 0 n in
    record { deadline = h.deadline; most = omega arith; full = λ x. omega arith }

lived_one : {w : Work} {m : Meaning} {s s' : State} {e : Event} (i : ℕ) → i < 255 → Exclusive m → Move w m s e s' → accepted_request i e ≡ false → LivedOne i s e s'
lived_one i small ex (quiet z u) f = lived_unnamed (u.jobs i) refl
lived_one i small ex (opening {i = j} l h o) f = lived_unnamed (o.others i (eqb-false i j f)) refl
lived_one i small ex (closing {s} {s'} {i = j} l h c) f =
    ⊎_elim
    (λ (e : i ≡ j).
    let d : s'.deadline i ≡ s.deadline i = subst (λ (x : ℕ). s'.deadline x ≡ s.deadline x) (sym e) c.deadline in
    let z : s'.left i ≡ 0 = subst (λ (x : ℕ). s'.left x ≡ 0) (sym e) c.left in
    record { deadline = d; most = omega arith; full = λ x. absurd (eqb-false i j x e) })
    (λ (e : i ≡ j → ⊥). lived_unnamed (c.others i e) refl)
    (cases_eq i j)
lived_one i small ex (ticking {s} {s'} {row = row} l r a) f =
    ⊎_elim
    (λ (y : holds i row ≡ true).
    let z = cond-true {A = ℕ} (holds i row) 1 0 y in
    let k = named_works r a i small y in
    record { deadline = a.deadline i; most = omega arith; full = λ x. omega arith })
    (λ (y : holds i row ≡ false). lived_unnamed (record { deadline = a.deadline i; left = unnamed_stays r a i ex y }) y)
    (cases_Bool (holds i row))

none_more : (b : Bool) (n : ℕ) → cond b 1 0 + n ≡ 0 → (b ≡ false) × (n ≡ 0)
none_more true n h = absurd (omega arith)
none_more false n h = (refl, omega arith)

pub lived : {w : Work} {m : Meaning} {s t : State} {es : List Event} (i : ℕ) → i < 255 → Exclusive m → Run w m s es t → many (accepted_request i) es ≡ 0 → Lived i s es t
lived i small ex start z = record { deadline = refl; most = omega arith; full = λ x. omega arith }
lived i small ex (more {e = e} {es = es} st r) z =
    let n = none_more (accepted_request i e) (many (accepted_request i) es) z in
    let h = lived_one i small ex (moved st) n.0 in
    let k = lived i small ex r n.1 in
    record {
      deadline = k.deadline ∙ h.deadline;
      most = omega (arith, h.most, k.most);
      full = λ x.
          let y = none_more (accepted_done i e) (many (accepted_done i) es) x in
          omega (arith, h.full y.0, k.full y.1);
    }
