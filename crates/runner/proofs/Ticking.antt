-- A tick of a job table, bin by bin.
use Rattle.std.proofs.Common.{◌≡◌, ℕ, ◌+◌, ◌<◌, ◌≤◌, true, false, eqb, List, length, get_or, set, Some, None, Option, sym, refl, ap, ◌∙◌, subst, inl, inr, ⊎_elim, arith}
use Rattle.std.proofs.lemmas.List.{get_or-set_same, get_or-set_other}
use Rattle.std.proofs.lemmas.Bool.{cases_Bool, cases_eq, cases_lt, eqb-false, ne_eqb, ltb-true, ltb-false, cond-true, cond-false}
use Rattle.layout_laws.specs.Meaning.{Meaning, Formed, Exclusive}
use Rattle.order.specs.Picks.{Least, Picked}
use Rattle.schedule.specs.Work.{Work}
use Rattle.schedule.specs.Steps.{Chosen, Row, Advanced}
use Rattle.schedule.proofs.Filling.{Filled, not_yet, all_done, passes, runs_one, none_done}
use Rattle.runner.specs.declared.job.Job.{Job}
use Rattle.runner.specs.Jobs.{none, sooner, to_run, worked, state, Holds, SameBins}

-- an unfinished job of the bin is one to run there
to_run_of : (j : Job) (b : ℕ) → to_run j ≡ Some b → (0 < j.left) × (j.bin ≡ b)
to_run_of j b e =
    ⊎_elim
    (λ (z : eqb j.left 0 ≡ true). let n : ◌≡◌ {A = Option ℕ} None (Some b) = sym (cond-true (eqb j.left 0) None (Some j.bin) z) ∙ e in let x : ◌≡◌ {A = ℕ} 0 1 = cc in absurd (omega arith))
    (λ (z : eqb j.left 0 ≡ false). let n : ◌≡◌ {A = Option ℕ} (Some j.bin) (Some b) = sym (cond-false (eqb j.left 0) None (Some j.bin) z) ∙ e in let k = eqb-false j.left 0 z in (some j.left k, cc))
    (cases_Bool (eqb j.left 0))
  where
    some : (n : ℕ) → (n ≡ 0 → ⊥) → 0 < n
    some n k = ⊎_elim (λ (l : 0 < n). l) (λ (l : n ≤ 0). absurd (k (omega arith))) (cases_lt 0 n)

of_to_run : (j : Job) (b : ℕ) → 0 < j.left → j.bin ≡ b → to_run j ≡ Some b
of_to_run j b l e = cond-false (eqb j.left 0) None (Some j.bin) (ne_eqb j.left 0 (λ z. omega arith)) ∙ ap Some e

-- the pick of bin b from the table, once the bins below b have run, is the task that the bin runs
module _ (w : Work) (m : Meaning) (c : ℕ) (js₀ js : List Job) (b : ℕ) (row : List ℕ) (holds : Holds w js₀) (bins : SameBins js₀ js) (f : Filled w m (state c js₀) b row (state (c + 1) js)) where
  still : (i : ℕ) → w.bin i ≡ b → (get_or js i none).left ≡ (get_or js₀ i none).left
  still i e = f.jobs.kept i (not_yet w m (state c js₀) b i (omega arith))

  rest : (i : ℕ) → w.tasks ≤ i → (get_or js i none).left ≡ 0
  rest i l = f.jobs.kept i (λ g. omega (arith, g.runs.chosen.known)) ∙ holds.rest i l

  pub chosen : (i : ℕ) → Least sooner to_run b js 64 i → Chosen w (state c js₀) b i
  chosen i p =
      let r = to_run_of (get_or js i none) b (p.bearing none) in
      let known : i < w.tasks = ⊎_elim (λ (l : i < w.tasks). l) (λ (l : w.tasks ≤ i). absurd (omega (arith, r.0, rest i l))) (cases_lt i w.tasks) in
      let own : w.bin i ≡ b = sym (holds.bins i known) ∙ sym (bins i) ∙ r.1 in
      record {
        known = known;
        own = own;
        unfinished = omega (arith, r.0, still i own);
        first = λ j l e u.
            let there : to_run (get_or js j none) ≡ Some b = of_to_run (get_or js j none) b (omega (arith, still j e)) (bins j ∙ holds.bins j l ∙ e) in
            let late = ltb-false (get_or js j none).deadline (get_or js i none).deadline (p.least j none (omega (arith, holds.few)) there) in
            let di = f.jobs.deadline i in
            let dj = f.jobs.deadline j in
            ⊎_elim
            (λ (k : (get_or js₀ i none).deadline < (get_or js₀ j none).deadline). inl k)
            (λ (k : (get_or js₀ j none).deadline ≤ (get_or js₀ i none).deadline). inr (
              omega arith,
              ⊎_elim
                  (λ (n : j < i). absurd (omega (arith, ltb-true (get_or js i none).deadline (get_or js j none).deadline (p.first j none n there))))
                  (λ (n : i ≤ j). n)
                  (cases_lt j i),
            ))
            (cases_lt (get_or js₀ i none).deadline (get_or js₀ j none).deadline);
      }

  pub none_chosen : Picked sooner to_run b js 64 None → (i : ℕ) → Chosen w (state c js₀) b i → ⊥
  none_chosen p i ch =
      p i none (omega (arith, ch.known, holds.few))
      (of_to_run (get_or js i none) b (omega (arith, still i ch.own, ch.unfinished)) (bins i ∙ holds.bins i ch.known ∙ ch.own))

-- the row and the table once the bins below b have run
pub record Ran (m : Meaning) (c : ℕ) (js₀ : List Job) (b : ℕ) (row : List ℕ) (js : List Job) : Type 0 where
  pub bins : SameBins js₀ js
  pub filled : (w : Work) → Holds w js₀ → Filled w m (state c js₀) b row (state (c + 1) js)

pub ran_none : (m : Meaning) (c : ℕ) (js : List Job) (row : List ℕ) → length row ≡ m.processors → ((q : ℕ) → get_or row q 255 ≡ 255) → Ran m c js 0 row js
ran_none m c js row wide blank =
    record {
      bins = λ i. refl;
      filled = λ w h. none_done w m (state c js) row (state (c + 1) js) wide blank refl (λ i. refl) (λ i. refl);
    }

module _ (m : Meaning) (c : ℕ) (js₀ : List Job) (b : ℕ) (row : List ℕ) (js : List Job) (r : Ran m c js₀ b row js) where
  -- the bin is not served
  pub ran_unserved : m.serves c b ≡ None → Ran m c js₀ (b + 1) row js
  ran_unserved e =
      record {
        bins = r.bins;
        filled = λ w h. passes w m (state c js₀) b row (state (c + 1) js) (λ q i s ch. let z : ◌≡◌ {A = Option ℕ} None (Some q) = sym e ∙ s in let n : ◌≡◌ {A = ℕ} 0 1 = cc in omega arith) (r.filled w h);
      }

  -- it has nothing to run
  pub ran_idle : Picked sooner to_run b js 64 None → Ran m c js₀ (b + 1) row js
  ran_idle p =
      record {
        bins = r.bins;
        filled = λ w h. passes w m (state c js₀) b row (state (c + 1) js) (λ q i s ch. none_chosen w m c js₀ js b row h r.bins (r.filled w h) p i ch) (r.filled w h);
      }

  -- it runs task i on processor q
  pub ran_task : (q i : ℕ) → Exclusive m → m.serves c b ≡ Some q → length js ≡ 64 → Least sooner to_run b js 64 i
      → Ran m c js₀ (b + 1) (set row q i) (set js i (worked (get_or js i none)))
  ran_task q i exclusive here wide p =
      record {
        bins = λ k. same_bin k ∙ r.bins k;
        filled = λ w h. runs_one w m (state c js₀) exclusive b q i here (chosen w m c js₀ js b row h r.bins (r.filled w h) i p) row (state (c + 1) js) (state (c + 1) (set js i (worked (get_or js i none)))) (r.filled w h) refl same_deadline (ap (λ (x : Job). x.left) it) other;
      }
    where
      it : get_or (set js i (worked (get_or js i none))) i none ≡ worked (get_or js i none)
      it = get_or-set_same js i (worked (get_or js i none)) none (omega (arith, p.inside))

      same_bin : (k : ℕ) → (get_or (set js i (worked (get_or js i none))) k none).bin ≡ (get_or js k none).bin
      same_bin k =
          ⊎_elim
          (λ (e : k ≡ i). subst (λ (x : ℕ). (get_or (set js i (worked (get_or js i none))) x none).bin ≡ (get_or js x none).bin) (sym e) (ap (λ (x : Job). x.bin) it))
          (λ (e : k ≡ i → ⊥). ap (λ (x : Job). x.bin) (get_or-set_other js i k (worked (get_or js i none)) none e))
          (cases_eq k i)

      same_deadline : (k : ℕ) → (get_or (set js i (worked (get_or js i none))) k none).deadline ≡ (get_or js k none).deadline
      same_deadline k =
          ⊎_elim
          (λ (e : k ≡ i). subst (λ (x : ℕ). (get_or (set js i (worked (get_or js i none))) x none).deadline ≡ (get_or js x none).deadline) (sym e) (ap (λ (x : Job). x.deadline) it))
          (λ (e : k ≡ i → ⊥). ap (λ (x : Job). x.deadline) (get_or-set_other js i k (worked (get_or js i none)) none e))
          (cases_eq k i)

      other : (k : ℕ) → (k ≡ i → ⊥) → (get_or (set js i (worked (get_or js i none))) k none).left ≡ (get_or js k none).left
      other k e = ap (λ (x : Job). x.left) (get_or-set_other js i k (worked (get_or js i none)) none e)

  -- all bins have run
  pub ran_row : Formed m → m.bins ≤ b → (w : Work) → Holds w js₀ → Row w m (state c js₀) row
  ran_row formed l w h = (all_done w m (state c js₀) b row (state (c + 1) js) formed l (r.filled w h)).0

  pub ran_jobs : Formed m → m.bins ≤ b → (w : Work) → Holds w js₀ → Advanced w m (state c js₀) (state (c + 1) js)
  ran_jobs formed l w h = (all_done w m (state c js₀) b row (state (c + 1) js) formed l (r.filled w h)).1

pub ran_as : (m : Meaning) (c : ℕ) (js₀ : List Job) (b : ℕ) (row row' : List ℕ) (js js' : List Job) → row' ≡ row → js' ≡ js → Ran m c js₀ b row js → Ran m c js₀ b row' js'
ran_as m c js₀ b row row' js js' e f r =
    subst (λ (x : List ℕ). Ran m c js₀ b x js') (sym e) (subst (λ (x : List Job). Ran m c js₀ b row x) (sym f) r)

-- a task that is not there has no job after a tick either
pub rests : (w : Work) (m : Meaning) (c : ℕ) (js₀ js : List Job) → Holds w js₀ → Advanced w m (state c js₀) (state (c + 1) js) → (i : ℕ) → w.tasks ≤ i → (get_or js i none).left ≡ 0
rests w m c js₀ js h a i l = a.kept i (λ g. omega (arith, g.runs.chosen.known)) ∙ h.rest i l
