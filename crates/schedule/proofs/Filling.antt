-- A row that is filled bin by bin: the bins below b count, and the others are not served yet.
use Rattle.std.proofs.Common.{◌≡◌, ℕ, ◌+◌, ◌-◌, ◌<◌, ◌≤◌, true, false, cond, ltb, ◌⊎◌, List, length, get_or, set, Some, None, Option, sym, refl, ap, ◌∙◌, subst, inl, inr, ⊎_elim, arith}
use Rattle.std.proofs.lemmas.List.{length-set, get_or-set_same, get_or-set_other}
use Rattle.std.proofs.lemmas.Bool.{cases_Bool, cases_eq, cases_lt, ltb-true, lt-ltb, cond-true, cond-false}
use Rattle.layout_laws.specs.Meaning.{Meaning, Formed, Exclusive}
use Rattle.schedule.specs.Work.{Work}
use Rattle.schedule.specs.State.{State}
use Rattle.schedule.specs.Steps.{Chosen, Runs, Running, Row, Advanced}
use Rattle.schedule.proofs.Choice.{chosen_once}

-- the layout with the bins below b alone
abbrev pub part : Meaning → ℕ → Meaning
part m b = record { processors = m.processors; bins = m.bins; shortest = m.shortest; load = m.load; serves = λ t p. cond (ltb p b) (m.serves t p) None }

-- the row and the jobs once the bins below b are done
pub record Filled (w : Work) (m : Meaning) (s : State) (b : ℕ) (area : List ℕ) (s' : State) : Type 0 where
  pub row : Row w (part m b) s area
  pub jobs : Advanced w (part m b) s s'

served_part : (m : Meaning) (b t p q : ℕ) → (part m b).serves t p ≡ Some q → (p < b) × (m.serves t p ≡ Some q)
served_part m b t p q e =
    ⊎_elim
    (λ (y : ltb p b ≡ true). (ltb-true p b y, sym (cond-true (ltb p b) (m.serves t p) None y) ∙ e))
    (λ (y : ltb p b ≡ false). let z : ◌≡◌ {A = Option ℕ} None (Some q) = sym (cond-false (ltb p b) (m.serves t p) None y) ∙ e in let n : ◌≡◌ {A = ℕ} 0 1 = cc in absurd (omega arith))
    (cases_Bool (ltb p b))

-- rows and jobs go by what runs where
module _ {w : Work} {m m' : Meaning} {s : State} (same : m.processors ≡ m'.processors) (to : (q i : ℕ) → Runs w m s q i → Runs w m' s q i) (back : (q i : ℕ) → Runs w m' s q i → Runs w m s q i) where
  pub row_like : {row : List ℕ} → Row w m s row → Row w m' s row
  row_like r = record { wide = r.wide ∙ same; busy = λ q i ru. r.busy q i (back q i ru); idle = λ q none. r.idle q (λ i ru. none i (to q i ru)) }

  pub jobs_like : {s' : State} → Advanced w m s s' → Advanced w m' s s'
  jobs_like a =
      record {
        clock = a.clock;
        deadline = a.deadline;
        worked = λ i g. a.worked i (record { processor = g.processor; runs = back g.processor i g.runs });
        kept = λ i none. a.kept i (λ g. none (record { processor = g.processor; runs = to g.processor i g.runs }));
      }

module _ (w : Work) (m : Meaning) (s : State) where
  whole : (b q i : ℕ) → Runs w (part m b) s q i → Runs w m s q i
  whole b q i ru = record { bin = ru.bin; served = (served_part m b s.clock ru.bin q ru.served).1; chosen = ru.chosen }

  below : (b q i : ℕ) (ru : Runs w (part m b) s q i) → ru.bin < b
  below b q i ru = (served_part m b s.clock ru.bin q ru.served).0

  runs_part : (b q i : ℕ) (ru : Runs w m s q i) → ru.bin < b → Runs w (part m b) s q i
  runs_part b q i ru l = record { bin = ru.bin; served = cond-true (ltb ru.bin b) (m.serves s.clock ru.bin) None (lt-ltb ru.bin b l) ∙ ru.served; chosen = ru.chosen }

  further : (b q i : ℕ) → Runs w (part m b) s q i → Runs w (part m (b + 1)) s q i
  further b q i ru = let l = below b q i ru in runs_part (b + 1) q i (record { bin = ru.bin; served = (served_part m b s.clock ru.bin q ru.served).1; chosen = ru.chosen }) (omega arith)

  -- no task of a bin from b on runs yet
  pub not_yet : (b i : ℕ) → b ≤ w.bin i → Running w (part m b) s i → ⊥
  not_yet b i l g = omega (arith, below b g.processor i g.runs, g.runs.chosen.own)

  -- no bin is done
  pub none_done : (row : List ℕ) (s' : State) → length row ≡ m.processors → ((q : ℕ) → get_or row q 255 ≡ 255) → s'.clock ≡ s.clock + 1 → ((i : ℕ) → s'.deadline i ≡ s.deadline i) → ((i : ℕ) → s'.left i ≡ s.left i) → Filled w m s 0 row s'
  none_done row s' wide blank clock deadline left =
      record {
        row = record { wide = wide; busy = λ q i ru. absurd (omega (arith, below 0 q i ru)); idle = λ q none. blank q };
        jobs = record { clock = clock; deadline = deadline; worked = λ i g. absurd (omega (arith, below 0 g.processor i g.runs)); kept = λ i none. left i };
      }

  -- all bins are done
  pub all_done : (b : ℕ) (row : List ℕ) (s' : State) → Formed m → m.bins ≤ b → Filled w m s b row s' → Row w m s row × Advanced w m s s'
  all_done b row s' formed l f = (row_like refl (whole b) back f.row, jobs_like refl (whole b) back f.jobs)
    where
      back : (q i : ℕ) → Runs w m s q i → Runs w (part m b) s q i
      back q i ru =
          ⊎_elim
          (λ (k : ru.bin < b). runs_part b q i ru k)
          (λ (k : b ≤ ru.bin). let z : ◌≡◌ {A = Option ℕ} None (Some q) = sym (formed.bins s.clock ru.bin (omega arith)) ∙ ru.served in let n : ◌≡◌ {A = ℕ} 0 1 = cc in absurd (omega arith))
          (cases_lt ru.bin b)

  -- bin b runs nothing: it is not served, or has nothing to run
  pub passes : (b : ℕ) (row : List ℕ) (s' : State) → ((q i : ℕ) → m.serves s.clock b ≡ Some q → Chosen w s b i → ⊥) → Filled w m s b row s' → Filled w m s (b + 1) row s'
  passes b row s' nothing f = record { row = row_like refl (further b) back f.row; jobs = jobs_like refl (further b) back f.jobs }
    where
      back : (q i : ℕ) → Runs w (part m (b + 1)) s q i → Runs w (part m b) s q i
      back q i ru =
          let v = whole (b + 1) q i ru in
          let l = below (b + 1) q i ru in
          let sv = (served_part m (b + 1) s.clock ru.bin q ru.served).1 in
          ⊎_elim
          (λ (k : ru.bin ≡ b). absurd (nothing q i (subst (λ (p : ℕ). m.serves s.clock p ≡ Some q) k sv) (subst (λ (p : ℕ). Chosen w s p i) k ru.chosen)))
          (λ (k : ru.bin ≡ b → ⊥). runs_part b q i (record { bin = ru.bin; served = sv; chosen = ru.chosen }) (omega arith))
          (cases_eq ru.bin b)

  -- bin b is served by q and runs task i
  module _ (exclusive : Exclusive m) (b q i : ℕ) (here : m.serves s.clock b ≡ Some q) (chosen : Chosen w s b i) where
    it : Runs w (part m (b + 1)) s q i
    it = record { bin = b; served = cond-true (ltb b (b + 1)) (m.serves s.clock b) None (lt-ltb b (b + 1) (omega arith)) ∙ here; chosen = chosen }

    -- what runs in the bins up to b is this, or runs in those below b on another processor, and is another task
    split : (q' i' : ℕ) → Runs w (part m (b + 1)) s q' i' → ((q' ≡ q) × (i' ≡ i)) ⊎ ((q' ≡ q → ⊥) × (i' ≡ i → ⊥) × Runs w (part m b) s q' i')
    split q' i' ru =
        let l = below (b + 1) q' i' ru in
        let sv = (served_part m (b + 1) s.clock ru.bin q' ru.served).1 in
        let own = ru.chosen.own in
        ⊎_elim
        (λ (k : ru.bin ≡ b).
        let sv' : m.serves s.clock b ≡ Some q' = subst (λ (p : ℕ). m.serves s.clock p ≡ Some q') k sv in
        let z : ◌≡◌ {A = Option ℕ} (Some q') (Some q) = sym sv' ∙ here in
        inl (cc, chosen_once (subst (λ (p : ℕ). Chosen w s p i') k ru.chosen) chosen))
        (λ (k : ru.bin ≡ b → ⊥). inr (
          (λ e. k (exclusive.apart s.clock ru.bin b q (subst (λ (x : ℕ). m.serves s.clock ru.bin ≡ Some x) e sv) here)),
          (λ e. k (sym own ∙ ap w.bin e ∙ chosen.own)),
          runs_part b q' i' (record { bin = ru.bin; served = sv; chosen = ru.chosen }) (omega arith),
        ))
        (cases_eq ru.bin b)

    pub runs_one : (row : List ℕ) (s' s'' : State) → Filled w m s b row s' → s''.clock ≡ s'.clock → ((j : ℕ) → s''.deadline j ≡ s'.deadline j) → s''.left i ≡ s'.left i - 1 → ((j : ℕ) → (j ≡ i → ⊥) → s''.left j ≡ s'.left j) → Filled w m s (b + 1) (set row q i) s''
    runs_one row s' s'' f clock deadline left others =
        record {
          row = record {
            wide = length-set row q i ∙ f.row.wide;
            busy = λ q' i' ru. ⊎_elim
                (λ (e : (q' ≡ q) × (i' ≡ i)). ap (λ (x : ℕ). get_or (set row q i) x 255) e.0 ∙ get_or-set_same row q i 255 inside ∙ sym e.1)
                (λ (e : (q' ≡ q → ⊥) × (i' ≡ i → ⊥) × Runs w (part m b) s q' i'). get_or-set_other row q q' i 255 e.0 ∙ f.row.busy q' i' e.2)
                (split q' i' ru);
            idle = λ q' none. get_or-set_other row q q' i 255 (λ e. none i (subst (λ (x : ℕ). Runs w (part m (b + 1)) s x i) (sym e) it)) ∙ f.row.idle q' (λ i' ru. none i' (further b q' i' ru));
          };
          jobs = record {
            clock = clock ∙ f.jobs.clock;
            deadline = λ j. deadline j ∙ f.jobs.deadline j;
            worked = λ i' g. ⊎_elim
                (λ (e : (g.processor ≡ q) × (i' ≡ i)). subst (λ (x : ℕ). s''.left x ≡ s.left x - 1) (sym e.1) (left ∙ ap (λ (x : ℕ). x - 1) still))
                (λ (e : (g.processor ≡ q → ⊥) × (i' ≡ i → ⊥) × Runs w (part m b) s g.processor i'). others i' e.1 ∙ f.jobs.worked i' (record { processor = g.processor; runs = e.2 }))
                (split g.processor i' g.runs);
            kept = λ i' none. others i' (λ e. none (subst (λ (x : ℕ). Running w (part m (b + 1)) s x) (sym e) (record { processor = q; runs = it }))) ∙ f.jobs.kept i' (λ g. none (record { processor = g.processor; runs = further b g.processor i' g.runs }));
          };
        }
      where
        inside : q < length row
        inside = omega (arith, exclusive.within s.clock b q here, f.row.wide)

        still : s'.left i ≡ s.left i
        still = f.jobs.kept i (not_yet b i (omega (arith, chosen.own)))
