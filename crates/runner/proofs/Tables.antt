-- Job tables: a new one, and what holds of one after another.
use Rattle.std.proofs.Common.{◌≡◌, ℕ, ◌+◌, ◌<◌, ◌≤◌, List, length, get_or, set, replicate, sym, ap, ◌∙◌, subst, ⊎_elim, arith}
use Rattle.std.proofs.lemmas.List.{length-set, length-replicate, get_or-set_same, get_or-set_other, get_or-replicate, get_or_past}
use Rattle.std.proofs.lemmas.Bool.{cases_eq, cases_lt}
use Rattle.runner.specs.declared.job.Job.{Job}
use Rattle.runner.specs.Jobs.{none}

-- a table without jobs, in which the first n tasks stand in these bins
pub record Placed (bins : List ℕ) (js : List Job) (n : ℕ) : Type 0 where
  pub wide : length js ≡ 64
  pub bin : (i : ℕ) → i < n → (get_or js i none).bin ≡ get_or bins i 0
  pub deadlines : (i : ℕ) → (get_or js i none).deadline ≡ 0
  pub left : (i : ℕ) → (get_or js i none).left ≡ 0

pub placed_none : (bins : List ℕ) → Placed bins (replicate 64 none) 0
placed_none bins =
    record {
      wide = length-replicate 64 none;
      bin = λ i l. absurd (omega arith);
      deadlines = λ i. ap (λ (j : Job). j.deadline) (vacant i);
      left = λ i. ap (λ (j : Job). j.left) (vacant i);
    }
  where
    vacant : (i : ℕ) → get_or (replicate 64 none) i none ≡ none
    vacant i =
        ⊎_elim
        (λ (l : i < 64). get_or-replicate 64 i none none l)
        (λ (l : 64 ≤ i). get_or_past (replicate 64 none) i none (omega (arith, length-replicate 64 none)))
        (cases_lt i 64)

pub placed_more : (bins : List ℕ) (js : List Job) (n : ℕ) (j : Job) → Placed bins js n → n < 64 → j.bin ≡ get_or bins n 0 → j.deadline ≡ 0 → j.left ≡ 0 → Placed bins (set js n j) (n + 1)
placed_more bins js n j h l b d z =
    record {
      wide = length-set js n j ∙ h.wide;
      bin = λ i k. ⊎_elim
          (λ (e : i ≡ n). subst (λ (x : ℕ). (get_or (set js n j) x none).bin ≡ get_or bins x 0) (sym e) (ap (λ (x : Job). x.bin) here ∙ b))
          (λ (e : i ≡ n → ⊥). ap (λ (x : Job). x.bin) (get_or-set_other js n i j none e) ∙ h.bin i (omega arith))
          (cases_eq i n);
      deadlines = λ i. ⊎_elim
          (λ (e : i ≡ n). subst (λ (x : ℕ). (get_or (set js n j) x none).deadline ≡ 0) (sym e) (ap (λ (x : Job). x.deadline) here ∙ d))
          (λ (e : i ≡ n → ⊥). ap (λ (x : Job). x.deadline) (get_or-set_other js n i j none e) ∙ h.deadlines i)
          (cases_eq i n);
      left = λ i. ⊎_elim
          (λ (e : i ≡ n). subst (λ (x : ℕ). (get_or (set js n j) x none).left ≡ 0) (sym e) (ap (λ (x : Job). x.left) here ∙ z))
          (λ (e : i ≡ n → ⊥). ap (λ (x : Job). x.left) (get_or-set_other js n i j none e) ∙ h.left i)
          (cases_eq i n);
    }
  where
    here : get_or (set js n j) n none ≡ j
    here = get_or-set_same js n j none (omega (arith, h.wide))
