-- Sums over the tasks below a number, and over the tasks of one bin.
use Rattle.std.proofs.Common.{◌≡◌, ℕ, zero, suc, ◌+◌, ◌*◌, ◌<◌, ◌≤◌, eqb, ◌⊎◌, sym, subst, inl, inr, ⊎_elim, add-mul, zero-mul, arith}
use Rattle.std.proofs.lemmas.Bool.{cases_eq, cases_lt, eq-eqb, ne_eqb, cond-true, cond-false}
use Rattle.plan.specs.Laws.{total}
use Rattle.schedule.specs.Work.{Work, own}

pub total_le : (n : ℕ) (f g : ℕ → ℕ) → ((i : ℕ) → i < n → f i ≤ g i) → total n f ≤ total n g
total_le zero f g h = omega arith
total_le (suc n) f g h =
    let below = total_le n f g (λ i l. h i (omega arith)) in
    let here = h n (omega arith) in
    omega arith

-- the two differ at one place
pub total_at : (n : ℕ) (f g : ℕ → ℕ) (k a b : ℕ) → k < n → f k + a ≤ g k + b → ((i : ℕ) → i < n → (i ≡ k → ⊥) → f i ≤ g i) → total n f + a ≤ total n g + b
total_at zero f g k a b l e h = omega arith
total_at (suc n) f g k a b l e h =
    go (total_at n f g k a b) (cases_eq k n)
  where
    go : (k < n → f k + a ≤ g k + b → ((i : ℕ) → i < n → (i ≡ k → ⊥) → f i ≤ g i) → total n f + a ≤ total n g + b) → (k ≡ n) ⊎ (k ≡ n → ⊥) → total (suc n) f + a ≤ total (suc n) g + b
    go ih (inl same) =
        let e' : f n + a ≤ g n + b = subst (λ (x : ℕ). f x + a ≤ g x + b) same e in
        let below = total_le n f g (λ i m. h i (omega arith) (omega arith)) in
        omega arith
    go ih (inr differ) =
        let here = h n (omega arith) (λ z. differ (sym z)) in
        let below = ih (omega arith) e (λ i m d. h i (omega arith) d) in
        omega arith

-- one part of a sum is at most the sum
pub part_le : (n : ℕ) (f : ℕ → ℕ) (k : ℕ) → k < n → f k ≤ total n f
part_le zero f k l = omega arith
part_le (suc n) f k l = go (part_le n f k) (cases_eq k n)
  where
    go : (k < n → f k ≤ total n f) → (k ≡ n) ⊎ (k ≡ n → ⊥) → f k ≤ total (suc n) f
    go ih (inl same) = rw same (omega arith)
    go ih (inr differ) = let below = ih (omega arith) in omega arith

-- a sum above 0 has a part above 0
pub some_part : (n : ℕ) (f : ℕ → ℕ) → 0 < total n f → (i : ℕ) × (i < n) × (0 < f i)
some_part zero f h = absurd (omega arith)
some_part (suc n) f h = go (some_part n f) (cases_lt 0 (f n))
  where
    go : (0 < total n f → (i : ℕ) × (i < n) × (0 < f i)) → (0 < f n) ⊎ (f n ≤ 0) → (i : ℕ) × (i < suc n) × (0 < f i)
    go ih (inl l) = (n, omega arith, l)
    go ih (inr l) = let t = ih (omega arith) in (t.0, omega (arith, t.1), t.2)

pub total_scale : (n : ℕ) (f g : ℕ → ℕ) (c d : ℕ) → ((i : ℕ) → i < n → f i * c ≤ g i * d) → total n f * c ≤ total n g * d
total_scale zero f g c d h = rw (zero-mul c) (omega arith)
total_scale (suc n) f g c d h =
    let below = total_scale n f g c d (λ i l. h i (omega arith)) in
    let here = h n (omega arith) in
    rw (add-mul (f n) (total n f) c, add-mul (g n) (total n g) d) (omega arith)

pub own_yes : (w : Work) (p : ℕ) (f : ℕ → ℕ) (i : ℕ) → w.bin i ≡ p → own w p f i ≡ f i
own_yes w p f i e = cond-true (eqb (w.bin i) p) (f i) 0 (eq-eqb (w.bin i) p e)

pub own_no : (w : Work) (p : ℕ) (f : ℕ → ℕ) (i : ℕ) → (w.bin i ≡ p → ⊥) → own w p f i ≡ 0
own_no w p f i e = cond-false (eqb (w.bin i) p) (f i) 0 (ne_eqb (w.bin i) p e)

-- for a comparison of sums over a bin, its own tasks suffice
pub own_le : (w : Work) (p : ℕ) (f g : ℕ → ℕ) (i : ℕ) → (w.bin i ≡ p → f i ≤ g i) → own w p f i ≤ own w p g i
own_le w p f g i h =
    ⊎_elim
    (λ (e : w.bin i ≡ p). omega (arith, own_yes w p f i e, own_yes w p g i e, h e))
    (λ (e : w.bin i ≡ p → ⊥). omega (arith, own_no w p f i e, own_no w p g i e))
    (cases_eq (w.bin i) p)
