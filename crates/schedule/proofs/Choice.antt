-- A bin with unfinished work has a chosen task.
use Rattle.std.proofs.Common.{◌≡◌, ℕ, zero, suc, ◌<◌, ◌≤◌, ◌⊎◌, sym, ap, subst, inl, inr, ⊎_elim, arith}
use Rattle.std.proofs.lemmas.Bool.{cases_eq, cases_lt}
use Rattle.schedule.specs.Work.{Work}
use Rattle.schedule.specs.State.{State}
use Rattle.layout_laws.specs.Meaning.{Meaning, Exclusive}
use Rattle.schedule.specs.Steps.{Chosen, Runs}

-- i goes before j
abbrev Before : State → ℕ → ℕ → Type 0
Before s i j = (s.deadline i < s.deadline j) ⊎ ((s.deadline i ≡ s.deadline j) × (i ≤ j))

-- the chosen task among those below n
record Best (w : Work) (s : State) (p n : ℕ) : Type 0 where
  task : ℕ
  below : task < n
  own : w.bin task ≡ p
  unfinished : 0 < s.left task
  first : (j : ℕ) → j < n → w.bin j ≡ p → 0 < s.left j → Before s task j

abbrev NoneBelow : Work → State → ℕ → ℕ → Type 0
NoneBelow w s p n = (j : ℕ) → j < n → w.bin j ≡ p → s.left j ≡ 0

module _ (w : Work) (s : State) (p : ℕ) where
  -- n itself is no candidate
  skip : (n : ℕ) → (w.bin n ≡ p → s.left n ≡ 0) → NoneBelow w s p n ⊎ Best w s p n → NoneBelow w s p (suc n) ⊎ Best w s p (suc n)
  skip n z (inl none) =
      inl (λ j l b. ⊎_elim
      (λ (e : j ≡ n). subst (λ (k : ℕ). s.left k ≡ 0) (sym e) (z (subst (λ (k : ℕ). w.bin k ≡ p) e b)))
      (λ (e : j ≡ n → ⊥). none j (omega arith) b)
      (cases_eq j n))
  skip n z (inr best) =
      inr (record {
        task = best.task;
        below = omega (arith, best.below);
        own = best.own;
        unfinished = best.unfinished;
        first = λ j l b u. ⊎_elim
            (λ (e : j ≡ n). absurd (omega (arith, z (subst (λ (k : ℕ). w.bin k ≡ p) e b), subst (λ (k : ℕ). 0 < s.left k) e u)))
            (λ (e : j ≡ n → ⊥). best.first j (omega arith) b u)
            (cases_eq j n);
      })

  -- n itself is a candidate
  take : (n : ℕ) → w.bin n ≡ p → 0 < s.left n → NoneBelow w s p n ⊎ Best w s p n → Best w s p (suc n)
  take n c v (inl none) =
      record {
        task = n;
        below = omega arith;
        own = c;
        unfinished = v;
        first = λ j l b u. ⊎_elim
            (λ (e : j ≡ n). inr (ap s.deadline (sym e), omega arith))
            (λ (e : j ≡ n → ⊥). absurd (omega (arith, none j (omega arith) b)))
            (cases_eq j n);
      }
  take n c v (inr best) =
      ⊎_elim
      (λ (h : s.deadline n < s.deadline best.task).
      record {
        task = n;
        below = omega arith;
        own = c;
        unfinished = v;
        first = λ j l b u. ⊎_elim
            (λ (e : j ≡ n). inr (ap s.deadline (sym e), omega arith))
            (λ (e : j ≡ n → ⊥). inl (⊎_elim
            (λ (k : s.deadline best.task < s.deadline j). omega arith)
            (λ (k : (s.deadline best.task ≡ s.deadline j) × (best.task ≤ j)). omega (arith, k.0))
            (best.first j (omega arith) b u)))
            (cases_eq j n);
      })
      (λ (h : s.deadline best.task ≤ s.deadline n).
      record {
        task = best.task;
        below = omega (arith, best.below);
        own = best.own;
        unfinished = best.unfinished;
        first = λ j l b u. ⊎_elim
            (λ (e : j ≡ n). subst (λ (k : ℕ). Before s best.task k) (sym e) (⊎_elim
            (λ (k : s.deadline best.task < s.deadline n). inl k)
            (λ (k : s.deadline n ≤ s.deadline best.task). inr (omega arith, omega (arith, best.below)))
            (cases_lt (s.deadline best.task) (s.deadline n))))
            (λ (e : j ≡ n → ⊥). best.first j (omega arith) b u)
            (cases_eq j n);
      })
      (cases_lt (s.deadline n) (s.deadline best.task))

  search_below : (n : ℕ) → NoneBelow w s p n ⊎ Best w s p n
  search_below zero = inl (λ j l b. absurd (omega arith))
  search_below (suc n) =
      let so_far = search_below n in
      ⊎_elim
      (λ (c : w.bin n ≡ p). ⊎_elim
      (λ (v : 0 < s.left n). inr (take n c v so_far))
      (λ (v : s.left n ≤ 0). skip n (λ x. omega arith) so_far)
      (cases_lt 0 (s.left n)))
      (λ (c : w.bin n ≡ p → ⊥). skip n (λ x. absurd (c x)) so_far)
      (cases_eq (w.bin n) p)

  -- one unfinished task of the bin: a task is chosen, with a deadline no later
  pub chosen_by : (j : ℕ) → j < w.tasks → w.bin j ≡ p → 0 < s.left j → (i : ℕ) × Chosen w s p i × (s.deadline i ≤ s.deadline j)
  chosen_by j l b u =
      ⊎_elim
      (λ (none : NoneBelow w s p w.tasks). absurd (omega (arith, none j l b)))
      (λ (best : Best w s p w.tasks). (
        best.task,
        record { known = best.below; own = best.own; unfinished = best.unfinished; first = best.first },
        ⊎_elim
            (λ (k : s.deadline best.task < s.deadline j). omega arith)
            (λ (k : (s.deadline best.task ≡ s.deadline j) × (best.task ≤ j)). omega (arith, k.0))
            (best.first j l b u),
      ))
      (search_below w.tasks)

-- a bin has one chosen task at most, and a processor runs one task at most: for whoever fills the rows
pub chosen_once : {w : Work} {s : State} {p i j : ℕ} → Chosen w s p i → Chosen w s p j → i ≡ j
chosen_once {w} {s} {p} {i} {j} a b =
    let x = a.first j b.known b.own b.unfinished in
    let y = b.first i a.known a.own a.unfinished in
    omega arith

pub runs_once : {w : Work} {m : Meaning} {s : State} {q i j : ℕ} → Exclusive m → Runs w m s q i → Runs w m s q j → i ≡ j
runs_once {w} {m} {s} {q} {i} {j} ex a b =
    let e = ex.apart s.clock a.bin b.bin q a.served b.served in
    chosen_once (subst (λ (p : ℕ). Chosen w s p i) e a.chosen) b.chosen
