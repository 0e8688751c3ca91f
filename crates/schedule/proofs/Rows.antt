-- What the entries of a row say of the tasks, and back. An entry tells that its task runs only up to a double negation,
-- since the served bin is not searched for; what is concluded is an equation of numbers, which that suffices for.
use Rattle.std.proofs.Common.{◌≡◌, ℕ, zero, suc, ◌+◌, ◌<◌, Bool, true, false, cond, eqb, ◌⊎◌, List, [], ◌∷◌, length, get_or, Some, Option, sym, refl, ◌∙◌, subst, inl, inr, ⊎_elim, arith}
use Rattle.std.proofs.lemmas.Bool.{cases_eq, cases_Bool, eqb-true, eq-eqb, cond-true, cond-false, both_ways, false≢true}
use Rattle.layout_laws.specs.Meaning.{Meaning, Exclusive}
use Rattle.schedule.specs.Work.{Work}
use Rattle.schedule.specs.State.{State}
use Rattle.schedule.specs.Steps.{Runs, Row, Advanced}
use Rattle.schedule.specs.History.{Event, Run, start, more, holds}
use Rattle.std.specs.List.{AllByRecursion}
use Rattle.schedule.specs.Promise.{OneEach}
use Rattle.schedule.proofs.Moves.{Move, quiet, opening, closing, ticking, moved}

-- a place that names a task below 255: the task runs there
pub named : {w : Work} {m : Meaning} {s : State} {row : List ℕ} → Row w m s row → (q x : ℕ) → get_or row q 255 ≡ x → x < 255 → (Runs w m s q x → ⊥) → ⊥
named {w} {m} {s} {row} r q x e h not =
    let none : (i : ℕ) → Runs w m s q i → ⊥ = λ i ru. not (subst (λ (j : ℕ). Runs w m s q j) (sym (r.busy q i ru) ∙ e) ru) in
    let z : get_or row q 255 ≡ 255 = r.idle q none in
    omega arith

-- two places that run tasks of one bin are one place
one_place : {w : Work} {m : Meaning} {s : State} {q q' x x' : ℕ} → Runs w m s q x → Runs w m s q' x' → w.bin x ≡ w.bin x' → q ≡ q'
one_place {w} {m} {s} {q} {q'} ru ru' e =
    let a = ru.served in
    let b = ru'.served in
    let c = ru.chosen.own in
    let d = ru'.chosen.own in
    let same : ◌≡◌ {A = Option ℕ} (Some q) (Some q') = cc in
    cc

one_row : {w : Work} {m : Meaning} {s : State} {row : List ℕ} → Row w m s row → (q q' : ℕ) → get_or row q 255 < 255 → get_or row q' 255 < 255 → w.bin (get_or row q 255) ≡ w.bin (get_or row q' 255) → q ≡ q'
one_row r q q' h h' e =
    ⊎_elim (λ y. y)
    (λ differ. absurd (named r q _ refl h (λ ru. named r q' _ refl h' (λ ru'. differ (one_place ru ru' e)))))
    (cases_eq q q')

one_move : {w : Work} {m : Meaning} {s s' : State} {e : Event} → Move w m s e s' → OneEach w e
one_move (quiet a u) = λ q q' l l' h h' e. omega arith
one_move (opening i l o) = λ q q' l l' h h' e. omega arith
one_move (closing i l o) = λ q q' l l' h h' e. omega arith
one_move (ticking l r a) = λ q q' l l' h h' e. one_row r q q' h h' e

pub one_each : {w : Work} {m : Meaning} {s s' : State} {es : List Event} → Run w m s es s' → AllByRecursion (OneEach w) es
one_each start = tt
one_each (more st r) = (one_move (moved st), one_each r)

pub held : (row : List ℕ) (i : ℕ) → holds i row ≡ true → (q : ℕ) × (q < length row) × (get_or row q 255 ≡ i)
held [] i h = absurd (false≢true h)
held (x ∷ xs) i h = go (held xs i) (cases_Bool (eqb i x))
  where
    go : (holds i xs ≡ true → (q : ℕ) × (q < length xs) × (get_or xs q 255 ≡ i)) → (eqb i x ≡ true) ⊎ (eqb i x ≡ false) → (q : ℕ) × (q < length (x ∷ xs)) × (get_or (x ∷ xs) q 255 ≡ i)
    go ih (inl e) = (0, omega arith, sym (eqb-true i x e))
    go ih (inr e) =
        let t = ih (sym (cond-false (eqb i x) true (holds i xs) e) ∙ h) in
        (suc t.0, omega (arith, t.1), t.2)

pub holding : (row : List ℕ) (i q : ℕ) → q < length row → get_or row q 255 ≡ i → holds i row ≡ true
holding [] i q l e = absurd (omega arith)
holding (x ∷ xs) i zero l e = cond-true (eqb i x) true (holds i xs) (eq-eqb i x (sym e))
holding (x ∷ xs) i (suc q) l e = rw (holding xs i q (omega arith) e) (go (eqb i x))
  where
    go : (b : Bool) → cond b true true ≡ true
    go true = refl
    go false = refl

module _ {w : Work} {m : Meaning} {s s' : State} {row : List ℕ} (r : Row w m s row) (a : Advanced w m s s') (i : ℕ) where
  pub named_works : i < 255 → holds i row ≡ true → s.left i ≡ s'.left i + 1
  named_works small h =
      let t = held row i h in
      ⊎_elim (λ y. y)
      (λ differ. absurd (named r t.0 i t.2 small (λ ru.
      let z = a.worked i (record { processor = t.0; runs = ru }) in
      let u = ru.chosen.unfinished in
      differ (omega arith))))
      (cases_eq (s.left i) (s'.left i + 1))

  pub unnamed_stays : Exclusive m → holds i row ≡ false → s'.left i ≡ s.left i
  unnamed_stays ex h =
      a.kept i (λ g.
      let ru = g.runs in
      let l : g.processor < length row = omega (arith, ex.within s.clock ru.bin g.processor ru.served, r.wide) in
      both_ways (holds i row) h (holding row i g.processor l (r.busy g.processor i ru)))
