-- Two runners that agree on the clock and on the tasks of one bin answer that bin alike, and agree afterwards.
use Rattle.std.proofs.Common.{◌≡◌, ℕ, suc, ◌+◌, ◌<◌, ◌≤◌, Bool, true, false, ◌&&◌, eqb, ltb, ◌⊎◌, List, [], ◌∷◌, length, get_or, sym, refl, ap, ◌∙◌, subst, ap₂, inl, inr, ⊎_elim, arith}
use Rattle.std.proofs.lemmas.Bool.{cases_eq, cases_lt, cases_Bool, eqb-true, eq-eqb, ltb-true, lt-ltb, and_from, and_parts, cond-true, cond-false, both_ways, true≢false}
use Rattle.layout_laws.specs.Meaning.{Meaning, horizon}
use Rattle.schedule.specs.Work.{Work}
use Rattle.schedule.specs.State.{State, Fresh, Stays, Unchanged}
use Rattle.schedule.specs.Steps.{Requested, Opened, Ended, Closed, Runs, Running, Row, Advanced, Ticked}
use Rattle.schedule.specs.History.{request, Event, row_of}
use Rattle.schedule.specs.Promise.{of_bin, entries, Same}
use Rattle.schedule.proofs.Moves.{Move, quiet, opening, closing, ticking}
use Rattle.schedule.proofs.Rows.{named}

pub record Agree (w : Work) (p : ℕ) (s s' : State) : Type 0 where
  pub clock : s'.clock ≡ s.clock
  pub jobs : (i : ℕ) → i < w.tasks → w.bin i ≡ p → Stays s s' i

pub same_sym : {m m' : Meaning} → Same m m' → Same m' m
same_sym e = record { processors = sym e.processors; serves = λ t p. sym (e.serves t p) }

module _ (w : Work) (p : ℕ) where
  pub agree_refl : (s : State) → Agree w p s s
  agree_refl s = record { clock = refl; jobs = λ i h b. record { deadline = refl; left = refl } }

  pub agree_fresh : {s s' : State} → Fresh s → Fresh s' → Agree w p s s'
  agree_fresh f f' =
      record {
        clock = f'.clock ∙ sym f.clock;
        jobs = λ i h b. record { deadline = f'.deadline i ∙ sym (f.deadline i); left = f'.left i ∙ sym (f.left i) };
      }

  pub agree_sym : {s s' : State} → Agree w p s s' → Agree w p s' s
  agree_sym g = record { clock = sym g.clock; jobs = λ i h b. record { deadline = sym (g.jobs i h b).deadline; left = sym (g.jobs i h b).left } }

  pub agree_trans : {s t u : State} → Agree w p s t → Agree w p t u → Agree w p s u
  agree_trans g g' =
      record {
        clock = g'.clock ∙ g.clock;
        jobs = λ i h b. record { deadline = (g'.jobs i h b).deadline ∙ (g.jobs i h b).deadline; left = (g'.jobs i h b).left ∙ (g.jobs i h b).left };
      }

  pub agree_same : {s s' : State} → Unchanged s s' → Agree w p s s'
  agree_same u = record { clock = u.clock; jobs = λ i h b. u.jobs i }

  -- a call that is not for the bin
  elsewhere : (i : ℕ) → i < w.tasks → of_bin w p (request i) ≡ false → (j : ℕ) → w.bin j ≡ p → j ≡ i → ⊥
  elsewhere i h f j b e =
      both_ways (of_bin w p (request i)) f
      (and_from (ltb i w.tasks) (eqb (w.bin i) p) (lt-ltb i w.tasks h) (eq-eqb (w.bin i) p (ap (λ (x : ℕ). w.bin x) (sym e) ∙ b)))

  pub agree_out : {m : Meaning} {s s' : State} {e : Event} → Move w m s e s' → of_bin w p e.asked ≡ false → Agree w p s s'
  agree_out (quiet a u) f = agree_same u
  agree_out (opening {i = i} h l o) f = record { clock = o.clock; jobs = λ j k b. o.others j (elsewhere i h f j b) }
  agree_out (closing {i = i} h l o) f = record { clock = o.clock; jobs = λ j k b. o.others j (elsewhere i h f j b) }
  agree_out (ticking l r a) f = absurd (true≢false f)

  agree_both : {s s₁ s' s₁' : State} → Agree w p s s' → Unchanged s s₁ → Unchanged s' s₁' → Agree w p s₁ s₁'
  agree_both g u u' = agree_trans (agree_trans (agree_sym (agree_same u)) g) (agree_same u')

  of_own : (i : ℕ) → of_bin w p (request i) ≡ true → (i < w.tasks) × (w.bin i ≡ p)
  of_own i e =
      let b = and_parts (ltb i w.tasks) (eqb (w.bin i) p) e in
      (ltb-true i w.tasks b.0, eqb-true (w.bin i) p b.1)

  -- what a call for the bin leaves, and its answer
  module _ {s s₁ s' s₁' : State} (g : Agree w p s s') where
    opened_alike : (i : ℕ) → Opened w s i s₁ → Opened w s' i s₁' → Agree w p s₁ s₁'
    opened_alike i o o' =
        record {
          clock = o'.clock ∙ g.clock ∙ sym o.clock;
          jobs = λ j h b. ⊎_elim
              (λ (e : j ≡ i). subst (λ (k : ℕ). Stays s₁ s₁' k) (sym e) (record {
                deadline = o'.deadline ∙ ap (λ (x : ℕ). x + w.period i) g.clock ∙ sym o.deadline;
                left = o'.left ∙ sym o.left;
              }))
              (λ (e : j ≡ i → ⊥). record {
                deadline = (o'.others j e).deadline ∙ (g.jobs j h b).deadline ∙ sym (o.others j e).deadline;
                left = (o'.others j e).left ∙ (g.jobs j h b).left ∙ sym (o.others j e).left;
              })
              (cases_eq j i);
        }

    closed_alike : (i : ℕ) → i < w.tasks → w.bin i ≡ p → Closed s i s₁ → Closed s' i s₁' → Agree w p s₁ s₁'
    closed_alike i k c o o' =
        record {
          clock = o'.clock ∙ g.clock ∙ sym o.clock;
          jobs = λ j h b. ⊎_elim
              (λ (e : j ≡ i). subst (λ (k : ℕ). Stays s₁ s₁' k) (sym e) (record {
                deadline = o'.deadline ∙ (g.jobs i k c).deadline ∙ sym o.deadline;
                left = o'.left ∙ sym o.left;
              }))
              (λ (e : j ≡ i → ⊥). record {
                deadline = (o'.others j e).deadline ∙ (g.jobs j h b).deadline ∙ sym (o.others j e).deadline;
                left = (o'.others j e).left ∙ (g.jobs j h b).left ∙ sym (o.others j e).left;
              })
              (cases_eq j i);
        }

    pub request_alike : (i a a' : ℕ) → of_bin w p (request i) ≡ true → Requested w s i a s₁ → Requested w s' i a' s₁' → (a ≡ a') × Agree w p s₁ s₁'
    request_alike i a a' t r r' =
        let h = (of_own i t).0 in
        let c = g.clock in
        let d = (g.jobs i h (of_own i t).1).deadline in
        ⊎_elim
        (λ (l : s.clock < s.deadline i).
        let x = r.early h l in
        let x' = r'.early h (omega arith) in
        (x.0 ∙ sym x'.0, agree_both g x.1 x'.1))
        (λ (l : s.deadline i ≤ s.clock).
        let x = r.accepted h l in
        let x' = r'.accepted h (omega arith) in
        (x.0 ∙ sym x'.0, opened_alike i x.1 x'.1))
        (cases_lt s.clock (s.deadline i))

    pub end_alike : (i a a' : ℕ) → of_bin w p (request i) ≡ true → Ended w s i a s₁ → Ended w s' i a' s₁' → (a ≡ a') × Agree w p s₁ s₁'
    end_alike i a a' t r r' =
        let h = (of_own i t).0 in
        let d = (g.jobs i h (of_own i t).1).left in
        ⊎_elim
        (λ (l : 0 < s.left i).
        let x = r.accepted h l in
        let x' = r'.accepted h (omega arith) in
        (x.0 ∙ sym x'.0, closed_alike i h (of_own i t).1 x.1 x'.1))
        (λ (l : s.left i ≤ 0).
        let x = r.none h (omega arith) in
        let x' = r'.none h (omega arith) in
        (x.0 ∙ sym x'.0, agree_both g x.1 x'.1))
        (cases_lt 0 (s.left i))

  -- what runs of the bin is the same on both sides
  pub runs_alike : {m m' : Meaning} {s s' : State} → Same m m' → Agree w p s s' → (q i : ℕ) → w.bin i ≡ p → Runs w m s q i → Runs w m' s' q i
  runs_alike {m} {m'} {s} {s'} same g q i b ru =
      let ch = ru.chosen in
      let here : (j : ℕ) → w.bin j ≡ ru.bin → w.bin j ≡ p = λ j c. c ∙ sym ch.own ∙ b in
      let mine = g.jobs i ch.known b in
      record {
        bin = ru.bin;
        served = sym (same.serves s'.clock ru.bin) ∙ ap (λ (t : ℕ). m.serves t ru.bin) g.clock ∙ ru.served;
        chosen = record {
          known = ch.known;
          own = ch.own;
          unfinished = let l = mine.left in omega (arith, ch.unfinished);
          first = λ j h c u.
              let o = g.jobs j h (here j c) in
              let u' : 0 < s.left j = omega (arith, o.left) in
              let k = mine.deadline in
              let k' = o.deadline in
              ⊎_elim
              (λ (l : s.deadline i < s.deadline j). inl (omega arith))
              (λ (l : (s.deadline i ≡ s.deadline j) × (i ≤ j)). inr (k ∙ l.0 ∙ sym k', l.1))
              (ch.first j h c u');
        };
      }

  -- a row names the tasks of the bin at the same places on both sides
  pub name_alike : {m m' : Meaning} {s s' : State} {row row' : List ℕ} → w.tasks ≤ 64 → Same m m' → Agree w p s s' → Row w m s row → Row w m' s' row' → (q x : ℕ) → get_or row q 255 ≡ x → x < w.tasks → w.bin x ≡ p → get_or row' q 255 ≡ x
  name_alike {row' = row'} few same g r r' q x e h b =
      ⊎_elim (λ y. y)
      (λ differ. absurd (named r q x e (omega arith) (λ ru. differ (r'.busy q x (runs_alike same g q x b ru)))))
      (cases_eq (get_or row' q 255) x)

  -- a tick keeps the agreement: a difference in what is left would refute both that the task runs and that it does not
  pub tick_agrees : {m m' : Meaning} {s s₁ s' s₁' : State} → Same m m' → Agree w p s s' → Advanced w m s s₁ → Advanced w m' s' s₁' → Agree w p s₁ s₁'
  tick_agrees {m} {m'} {s} {s₁} {s'} {s₁'} same g a a' =
      record {
        clock = a'.clock ∙ ap (λ (x : ℕ). x + 1) g.clock ∙ sym a.clock;
        jobs = λ i h b.
            let o = g.jobs i h b in
            let l = o.left in
            let there : Running w m s i → Running w m' s' i = λ x. record { processor = x.processor; runs = runs_alike same g x.processor i b x.runs } in
            let back : Running w m' s' i → Running w m s i = λ x. record { processor = x.processor; runs = runs_alike (same_sym same) (agree_sym g) x.processor i b x.runs } in
            record {
              deadline = a'.deadline i ∙ o.deadline ∙ sym (a.deadline i);
              left = ⊎_elim (λ y. y)
                  (λ differ.
                  let idle : Running w m s i → ⊥ = λ x. differ (omega (arith, a.worked i x, a'.worked i (there x))) in
                  absurd (differ (omega (arith, a.kept i idle, a'.kept i (λ x. idle (back x))))))
                  (cases_eq (s₁'.left i) (s₁.left i));
            };
      }

  abbrev mine : ℕ → Bool
  mine x = ltb x w.tasks && eqb (w.bin x) p

  -- rows that name the tasks of the bin at the same places have the same entries of it
  pub entries_alike : (row row' : List ℕ) (k : ℕ) → length row ≡ length row'
      → ((q x : ℕ) → get_or row q 255 ≡ x → x < w.tasks → w.bin x ≡ p → get_or row' q 255 ≡ x)
      → ((q x : ℕ) → get_or row' q 255 ≡ x → x < w.tasks → w.bin x ≡ p → get_or row q 255 ≡ x)
      → entries w p k row ≡ entries w p k row'
  entries_alike [] [] k n f b = refl
  entries_alike [] (y ∷ ys) k n f b = absurd (omega arith)
  entries_alike (x ∷ xs) [] k n f b = absurd (omega arith)
  entries_alike (x ∷ xs) (y ∷ ys) k n f b =
      go (entries_alike xs ys (suc k) (omega arith) (λ q. f (suc q)) (λ q. b (suc q))) (cases_Bool (mine x)) (cases_Bool (mine y))
    where
      tells : (z : ℕ) → mine z ≡ true → (z < w.tasks) × (w.bin z ≡ p)
      tells z e =
          let t = and_parts (ltb z w.tasks) (eqb (w.bin z) p) e in
          (ltb-true z w.tasks t.0, eqb-true (w.bin z) p t.1)

      go : entries w p (suc k) xs ≡ entries w p (suc k) ys → (mine x ≡ true) ⊎ (mine x ≡ false) → (mine y ≡ true) ⊎ (mine y ≡ false)
          → entries w p k (x ∷ xs) ≡ entries w p k (y ∷ ys)
      go ih (inl t) (inl t') =
          let e : y ≡ x = f 0 x refl (tells x t).0 (tells x t).1 in
          cond-true (mine x) ((k, x) ∷ entries w p (suc k) xs) (entries w p (suc k) xs) t
          ∙ ap₂ (λ (z : ℕ) (zs : List (ℕ × ℕ)). (k, z) ∷ zs) (sym e) ih
          ∙ sym (cond-true (mine y) ((k, y) ∷ entries w p (suc k) ys) (entries w p (suc k) ys) t')
      go ih (inl t) (inr t') = absurd (both_ways (mine y) t' (rw (f 0 x refl (tells x t).0 (tells x t).1) t))
      go ih (inr t) (inl t') = absurd (both_ways (mine x) t (rw (b 0 y refl (tells y t').0 (tells y t').1) t'))
      go ih (inr t) (inr t') =
          cond-false (mine x) ((k, x) ∷ entries w p (suc k) xs) (entries w p (suc k) xs) t
          ∙ ih
          ∙ sym (cond-false (mine y) ((k, y) ∷ entries w p (suc k) ys) (entries w p (suc k) ys) t')

  -- a tick on both sides: the same answer, the same entries, and the agreement stays
  pub tick_alike : {m m' : Meaning} {s s₁ s' s₁' : State} (before before' after after' : List ℕ) (a a' : ℕ) → w.tasks ≤ 64 → Same m m' → Agree w p s s'
      → length before ≡ length before' → Ticked w m s before a after s₁ → Ticked w m' s' before' a' after' s₁'
      → (a ≡ a') × (entries w p 0 (row_of a after) ≡ entries w p 0 (row_of a' after')) × Agree w p s₁ s₁'
  tick_alike {m} {m'} {s} {s₁} {s'} {s₁'} before before' after after' a a' few same g n r r' =
      let c = g.clock in
      let width = same.processors in
      ⊎_elim
      (λ (h : length before ≡ m.processors).
      let h' : length before' ≡ m'.processors = omega arith in
      ⊎_elim
      (λ (l : s.clock < horizon).
      let x = r.accepted h l in
      let x' = r'.accepted h' (omega arith) in
      let es : entries w p 0 after ≡ entries w p 0 after' =
      entries_alike after after' 0 (x.1.wide ∙ width ∙ sym x'.1.wide)
      (name_alike few same g x.1 x'.1)
      (name_alike few (same_sym same) (agree_sym g) x'.1 x.1) in
      (x.0 ∙ sym x'.0, rw (x.0, x'.0) es, tick_agrees same g x.2 x'.2))
      (λ (l : horizon ≤ s.clock).
      let x = r.over h l in
      let x' = r'.over h' (omega arith) in
      (x.0 ∙ sym x'.0, rw (x.0, x'.0) refl, agree_both g x.2 x'.2))
      (cases_lt s.clock horizon))
      (λ (h : length before ≡ m.processors → ⊥).
      let x = r.misfit h in
      let x' = r'.misfit (λ e. h (n ∙ e ∙ sym width)) in
      (x.0 ∙ sym x'.0, rw (x.0, x'.0) refl, agree_both g x.2 x'.2))
      (cases_eq (length before) m.processors)
