-- The demand bound: what is due by d, with what was supplied since some tick, is covered by jobs that were requested since that
-- tick and are due by d. Every call keeps it, and at the clock d it leaves nothing due.
use Rattle.std.proofs.Common.{◌≡◌, ℕ, zero, suc, ◌+◌, ◌-◌, ◌*◌, ◌<◌, ◌≤◌, cond, eqb, ◌⊎◌, Some, None, Option, sym, refl, ap, ◌∙◌, subst, inl, inr, ⊎_elim, le_trans, add-zero, mul-le-mul_right, mul_assoc, suc-mul, mul_comm, mul-le-mul_left, mul-zero, zero-mul, mul-suc, arith}
use Rattle.std.proofs.lemmas.Bool.{cases_eq, cases_lt, eq-eqb, ne_eqb, cond-true, cond-false}
use Rattle.layout_laws.specs.Meaning.{Meaning, horizon, one, supplied}
use Rattle.schedule.specs.Work.{Work, Sound, own, over}
use Rattle.schedule.specs.State.{State, Fresh}
use Rattle.schedule.specs.Steps.{Opened, Advanced}
use Rattle.schedule.specs.History.{Event}
use Rattle.schedule.proofs.Moves.{Move, quiet, opening, closing, ticking}
use Rattle.schedule.proofs.Totals.{total_at, some_part, total_scale, own_yes, own_no, own_le}
use Rattle.schedule.proofs.Choice.{chosen_by}
use Rattle.schedule.proofs.Pending.{pending, pending_same, pending_closed, pending_opened_other, pending_opened, pending_ticked, pending_worked, pending_of}

-- one tick more
supplied_more : (m : Meaning) (p a n : ℕ) → supplied m p a (suc n) ≡ supplied m p a n + one (m.serves (a + n) p)
unfolding supplied
supplied_more m p a zero = rw (add-zero a) (omega arith)
supplied_more m p a (suc n) =
    let next = supplied_more m p (suc a) n in
    let same : suc a + n ≡ a + suc n = omega arith in
    let next' : supplied m p (suc a) (suc n) ≡ supplied m p (suc a) n + one (m.serves (a + suc n) p) = subst (λ (x : ℕ). supplied m p (suc a) (suc n) ≡ supplied m p (suc a) n + one (m.serves x p)) same next in
    omega arith

supplied_none : (m : Meaning) (p a : ℕ) → supplied m p a 0 ≡ 0
unfolding supplied
supplied_none m p a = refl

-- jobs i jobs of task i fit between a and b
abbrev Fits : Work → ℕ → ℕ → ℕ → ℕ → Type 0
Fits w i jobs a b = jobs * w.period i + a ≤ b

-- the work of one bin that so many jobs of each task ask for
abbrev asked_for : Work → ℕ → (ℕ → ℕ) → ℕ
asked_for w p jobs = over w p (λ i. w.budget i * jobs i)

pub record Bound (w : Work) (m : Meaning) (p d : ℕ) (s : State) : Type 0 where
  from : ℕ
  jobs : ℕ → ℕ
  begun : from ≤ s.clock
  covered : pending w p d s + supplied m p from (s.clock - from) ≤ asked_for w p jobs
  fit : (i : ℕ) → (jobs i ≡ 0) ⊎ (Fits w i (jobs i) from (s.deadline i) × Fits w i (jobs i) from d)

module _ (w : Work) (m : Meaning) (p d : ℕ) where
  -- nothing is due: begin anew at the clock
  bound_anew : (s : State) → pending w p d s ≡ 0 → Bound w m p d s
  bound_anew s z =
      let none : s.clock - s.clock ≡ 0 = omega arith in
      record {
        from = s.clock;
        jobs = λ i. 0;
        begun = omega arith;
        covered = rw none (omega (arith, supplied_none m p s.clock));
        fit = λ i. inl refl;
      }

  pub bound_fresh : {s : State} → Fresh s → Bound w m p d s
  bound_fresh {s} f =
      bound_anew s (⊎_elim
      (λ (h : 0 < pending w p d s). let t = pending_of w p d s h in absurd (omega (arith, t.4, f.left t.0)))
      (λ (h : pending w p d s ≤ 0). omega arith)
      (cases_lt 0 (pending w p d s)))

  -- a call that adds nothing that is due
  bound_kept : {s s' : State} → s'.clock ≡ s.clock → pending w p d s' ≤ pending w p d s → ((i : ℕ) → s.deadline i ≤ s'.deadline i) → Bound w m p d s → Bound w m p d s'
  bound_kept {s} {s'} c less later b =
      record {
        from = b.from;
        jobs = b.jobs;
        begun = omega (arith, b.begun);
        covered = rw c (omega (arith, b.covered));
        fit = λ i. ⊎_elim
            (λ (z : b.jobs i ≡ 0). inl z)
            (λ (f : Fits w i (b.jobs i) b.from (s.deadline i) × Fits w i (b.jobs i) b.from d). inr (omega (arith, f.0, later i), f.1))
            (b.fit i);
      }

  -- one job more of task k
  abbrev bump : (ℕ → ℕ) → ℕ → ℕ → ℕ
  bump jobs k i = cond (eqb i k) (suc (jobs i)) (jobs i)

  bump_same : (jobs : ℕ → ℕ) (k : ℕ) → bump jobs k k ≡ suc (jobs k)
  bump_same jobs k = cond-true (eqb k k) (suc (jobs k)) (jobs k) (eq-eqb k k refl)

  bump_other : (jobs : ℕ → ℕ) (k i : ℕ) → (i ≡ k → ⊥) → bump jobs k i ≡ jobs i
  bump_other jobs k i e = cond-false (eqb i k) (suc (jobs i)) (jobs i) (ne_eqb i k e)

  asked_more : (jobs : ℕ → ℕ) (k : ℕ) → k < w.tasks → w.bin k ≡ p → asked_for w p jobs + w.budget k ≤ asked_for w p (bump jobs k)
  asked_more jobs k l b =
      let old : ℕ → ℕ = λ i. w.budget i * jobs i in
      let new : ℕ → ℕ = λ i. w.budget i * bump jobs k i in
      let here : new k ≡ old k + w.budget k = rw (bump_same jobs k) (mul-suc (w.budget k) (jobs k)) in
      let all = total_at w.tasks (own w p old) (own w p new) k (w.budget k) 0 l
      (omega (arith, own_yes w p old k b, own_yes w p new k b))
      (λ i h e. own_le w p old new i (λ c. rw (bump_other jobs k i e) (omega arith))) in
      omega arith

  bound_opened : {s s' : State} {k : ℕ} → k < w.tasks → w.bin k ≡ p → s.deadline k ≤ s.clock → s'.deadline k ≤ d → Opened w s k s' → Bound w m p d s → Bound w m p d s'
  bound_opened {s} {s'} {k} l own-bin over-due soon o b =
      let c = o.clock in
      record {
        from = b.from;
        jobs = bump b.jobs k;
        begun = omega (arith, b.begun);
        covered = rw c (omega (arith, b.covered, pending_opened w p d l own-bin o, asked_more b.jobs k l own-bin));
        fit = λ i. ⊎_elim
            (λ (e : i ≡ k). subst (λ (j : ℕ). (bump b.jobs k j ≡ 0) ⊎ (Fits w j (bump b.jobs k j) b.from (s'.deadline j) × Fits w j (bump b.jobs k j) b.from d)) (sym e)
            (let one_more : Fits w k (bump b.jobs k k) b.from (s'.deadline k) =
            rw (bump_same b.jobs k, suc-mul (b.jobs k) (w.period k)) (⊎_elim
            (λ (z : b.jobs k ≡ 0). rw (z, zero-mul (w.period k)) (omega (arith, b.begun, o.deadline)))
            (λ (f : Fits w k (b.jobs k) b.from (s.deadline k) × Fits w k (b.jobs k) b.from d). omega (arith, f.0, o.deadline))
            (b.fit k)) in
            inr (one_more, omega arith)))
            (λ (e : i ≡ k → ⊥). rw (bump_other b.jobs k i e) (⊎_elim
            (λ (z : b.jobs i ≡ 0). inl z)
            (λ (f : Fits w i (b.jobs i) b.from (s.deadline i) × Fits w i (b.jobs i) b.from d). inr (omega (arith, f.0, (o.others i e).deadline), f.1))
            (b.fit i)))
            (cases_eq i k);
      }

  -- a served bin with work due works on it
  pending_served : {s s' : State} → Advanced w m s s' → 0 < pending w p d s → pending w p d s' + one (m.serves s.clock p) ≤ pending w p d s
  pending_served {s} {s'} a h = go (m.serves s.clock p) refl
    where
      go : (o : Option ℕ) → m.serves s.clock p ≡ o → pending w p d s' + one o ≤ pending w p d s
      go None e = omega (arith, pending_ticked w p d a)
      go (Some q) e =
          let t = pending_of w p d s h in
          let c = chosen_by w s p t.0 t.1 t.2 t.4 in
          pending_worked w p d a c.1.known c.1.own (omega (arith, c.2, t.3)) c.1.unfinished (record { processor = q; runs = record { bin = p; served = e; chosen = c.1 } })

  bound_ticked : {s s' : State} → Advanced w m s s' → Bound w m p d s → Bound w m p d s'
  bound_ticked {s} {s'} a b =
      let c = a.clock in
      ⊎_elim
      (λ (h : 0 < pending w p d s).
      let begun = b.begun in
      let longer : s'.clock - b.from ≡ suc (s.clock - b.from) = omega arith in
      let there : b.from + (s.clock - b.from) ≡ s.clock = omega arith in
      let fed : supplied m p b.from (suc (s.clock - b.from)) ≡ supplied m p b.from (s.clock - b.from) + one (m.serves s.clock p) =
      supplied_more m p b.from (s.clock - b.from) ∙ ap (λ (x : ℕ). supplied m p b.from (s.clock - b.from) + one (m.serves x p)) there in
      record {
        from = b.from;
        jobs = b.jobs;
        begun = omega arith;
        covered = rw longer (omega (arith, fed, b.covered, pending_served a h));
        fit = λ i. ⊎_elim
            (λ (z : b.jobs i ≡ 0). inl z)
            (λ (f : Fits w i (b.jobs i) b.from (s.deadline i) × Fits w i (b.jobs i) b.from d). inr (omega (arith, f.0, a.deadline i), f.1))
            (b.fit i);
      })
      (λ (h : pending w p d s ≤ 0). bound_anew s' (omega (arith, pending_ticked w p d a)))
      (cases_lt 0 (pending w p d s))

  pub bound_moved : {s s' : State} {e : Event} → Move w m s e s' → Bound w m p d s → Bound w m p d s'
  bound_moved (quiet a u) b = bound_kept u.clock (pending_same w p d u) (λ i. omega (arith, (u.jobs i).deadline)) b
  bound_moved (opening {s} {s'} {i} l h o) b =
      let later : (j : ℕ) → s.deadline j ≤ s'.deadline j =
      λ j. ⊎_elim
      (λ (e : j ≡ i). subst (λ (k : ℕ). s.deadline k ≤ s'.deadline k) (sym e) (omega (arith, o.deadline)))
      (λ (e : j ≡ i → ⊥). omega (arith, (o.others j e).deadline))
      (cases_eq j i) in
      ⊎_elim
      (λ (e : w.bin i ≡ p). ⊎_elim
      (λ (far : d < s'.deadline i). bound_kept o.clock (pending_opened_other w p d o (λ x. far)) later b)
      (λ (near : s'.deadline i ≤ d). bound_opened l e h near o b)
      (cases_lt d (s'.deadline i)))
      (λ (e : w.bin i ≡ p → ⊥). bound_kept o.clock (pending_opened_other w p d o (λ x. absurd (e x))) later b)
      (cases_eq (w.bin i) p)
  bound_moved (closing {s} {s'} {i} l h c) b =
      let later : (j : ℕ) → s.deadline j ≤ s'.deadline j =
      λ j. ⊎_elim
      (λ (e : j ≡ i). subst (λ (k : ℕ). s.deadline k ≤ s'.deadline k) (sym e) (omega (arith, c.deadline)))
      (λ (e : j ≡ i → ⊥). omega (arith, (c.others j e).deadline))
      (cases_eq j i) in
      bound_kept c.clock (pending_closed w p d c) later b
  bound_moved (ticking l r a) b = bound_ticked a b

-- budgets asked for in a window are within its charge
scaled : (b j c t l : ℕ) → b * 1000000 ≤ c * t → j * t ≤ l → b * j * 1000000 ≤ c * l
scaled b j c t l h k =
    let e : b * j * 1000000 ≡ b * 1000000 * j = mul_assoc b j 1000000 ∙ ap (λ (x : ℕ). b * x) (mul_comm j 1000000) ∙ sym (mul_assoc b 1000000 j) in
    let e' : c * t * j ≡ c * (j * t) = mul_assoc c t j ∙ ap (λ (x : ℕ). c * x) (mul_comm t j) in
    rw e (le_trans (mul-le-mul_right j h) (rw e' (mul-le-mul_left c k)))

at_least : (n x : ℕ) → 0 < n → x ≤ n * x
at_least zero x h = absurd (omega arith)
at_least (suc n) x h = rw (suc-mul n x) (omega arith)

module _ {w : Work} {m : Meaning} (sound : Sound w m) (p : ℕ) (s : State) (b : Bound w m p s.clock s) where
  abbrev length : ℕ
  length = s.clock - b.from

  abbrev wanted : ℕ → ℕ
  wanted i = w.budget i * b.jobs i

  wanted_of : (i : ℕ) → i < w.tasks → wanted i * 1000000 ≤ w.charge i * length
  wanted_of i l =
      ⊎_elim
      (λ (z : b.jobs i ≡ 0). rw (z, mul-zero (w.budget i)) (omega arith))
      (λ (f : Fits w i (b.jobs i) b.from (s.deadline i) × Fits w i (b.jobs i) b.from s.clock).
      scaled (w.budget i) (b.jobs i) (w.charge i) (w.period i) length (sound.each i l).charged (omega (arith, f.1)))
      (b.fit i)

  all_wanted : over w p wanted * 1000000 ≤ over w p w.charge * length
  all_wanted =
      total_scale w.tasks (own w p wanted) (own w p w.charge) 1000000 length (λ i l. ⊎_elim
      (λ (e : w.bin i ≡ p). rw (own_yes w p wanted i e, own_yes w p w.charge i e) (wanted_of i l))
      (λ (e : w.bin i ≡ p → ⊥). rw (own_no w p wanted i e) (omega arith))
      (cases_eq (w.bin i) p))

  long_enough : 0 < over w p wanted → m.shortest ≤ length
  long_enough h =
      let t = some_part w.tasks (own w p wanted) h in
      let i = t.0 in
      let u = t.2 in
      let much : 0 < wanted i = ⊎_elim
      (λ (e : w.bin i ≡ p). omega (arith, own_yes w p wanted i e))
      (λ (e : w.bin i ≡ p → ⊥). absurd (omega (arith, own_no w p wanted i e)))
      (cases_eq (w.bin i) p) in
      ⊎_elim
      (λ (z : b.jobs i ≡ 0). absurd (omega (arith, ap (λ (x : ℕ). w.budget i * x) z, mul-zero (w.budget i))))
      (λ (f : Fits w i (b.jobs i) b.from (s.deadline i) × Fits w i (b.jobs i) b.from s.clock).
      let some : 0 < b.jobs i = ⊎_elim
      (λ (k : 0 < b.jobs i). k)
      (λ (k : b.jobs i ≤ 0). let z : b.jobs i ≡ 0 = omega arith in absurd (omega (arith, ap (λ (x : ℕ). w.budget i * x) z, mul-zero (w.budget i))))
      (cases_lt 0 (b.jobs i)) in
      omega (arith, f.1, at_least (b.jobs i) (w.period i) some, (sound.each i t.1).long))
      (b.fit i)

  -- at the clock d nothing is due by d
  pub nothing_due : s.clock ≤ horizon → pending w p s.clock s ≡ 0
  nothing_due in_time =
      let covered = b.covered in
      let begun = b.begun in
      ⊎_elim
      (λ (h : 0 < pending w p s.clock s).
      let law = sound.supplies p b.from length (long_enough (omega arith)) (omega arith) in
      let law' : over w p w.charge * length ≤ supplied m p b.from length * 1000000 = rw (sound.loads p) at law in
      let all = all_wanted in
      absurd (omega arith))
      (λ (h : pending w p s.clock s ≤ 0). omega arith)
      (cases_lt 0 (pending w p s.clock s))
