-- Sums of reserves.
use Rattle.std.proofs.Common.{◌≡◌, ℕ, zero, suc, ◌+◌, ◌-◌, ◌*◌, ◌<◌, ◌≤◌, List, length, get_or, take, sum_by, sum, sym, refl, ap, ◌∙◌, ⊎_elim, add-one, arith}
use Rattle.std.proofs.lemmas.List.{take_all, get_or_past}
use Rattle.std.proofs.lemmas.List.Sums.{sum_by_more, sum_by-take-le}
use Rattle.std.proofs.lemmas.Bool.{cases_lt}
use Rattle.layout_laws.specs.Shares.{share, before, Fit}

pub before_none : (f : ℕ → ℕ) → before f 0 ≡ 0
unfolding before
before_none f = refl

pub before_more : (f : ℕ → ℕ) (n : ℕ) → before f (suc n) ≡ before f n + f n
unfolding before
before_more f n = refl

pub before_rise : (f : ℕ → ℕ) (m d : ℕ) → before f m ≤ before f (m + d)
before_rise f m zero = let e : m + 0 ≡ m = omega arith in omega (arith, ap (before f) e)
before_rise f m (suc d) =
    let e : m + suc d ≡ suc (m + d) = omega arith in
    omega (arith, ap (before f) e, before_more f (m + d), before_rise f m d)

pub before_mono : (f : ℕ → ℕ) (m n : ℕ) → m ≤ n → before f m ≤ before f n
before_mono f m n h =
    let e : m + (n - m) ≡ n = omega arith in
    omega (arith, ap (before f) e, before_rise f m (n - m))

-- a sum in two parts
pub before_add : (f : ℕ → ℕ) (m d : ℕ) → before f (m + d) ≡ before f m + before (λ i. f (m + i)) d
before_add f m zero = let e : m + 0 ≡ m = omega arith in omega (arith, ap (before f) e, before_none (λ i. f (m + i)))
before_add f m (suc d) =
    let e : m + suc d ≡ suc (m + d) = omega arith in
    omega (arith, ap (before f) e, before_more f (m + d), before_more (λ i. f (m + i)) d, before_add f m d)

-- a sum over the places before n, in the words of lists
pub before_by : (f : ℕ → ℕ) (xs : List ℕ) (n : ℕ) → f 0 ≡ 0 → before (λ p. f (get_or xs p 0)) n ≡ sum_by f (take n xs)
before_by f xs zero z = before_none (λ p. f (get_or xs p 0))
before_by f xs (suc n) z = let ih = before_by f xs n z in ⊎_elim (inside ih) (past ih) (cases_lt n (length xs))
  where
    inside : before (λ p. f (get_or xs p 0)) n ≡ sum_by f (take n xs) → n < length xs → before (λ p. f (get_or xs p 0)) (suc n) ≡ sum_by f (take (suc n) xs)
    inside ih h =
        let e : sum_by f (take (n + 1) xs) ≡ sum_by f (take (suc n) xs) = ap (λ x. sum_by f (take x xs)) (add-one n) in
        omega (arith, before_more (λ p. f (get_or xs p 0)) n, ih, sum_by_more f xs n 0 h, e)

    past : before (λ p. f (get_or xs p 0)) n ≡ sum_by f (take n xs) → length xs ≤ n → before (λ p. f (get_or xs p 0)) (suc n) ≡ sum_by f (take (suc n) xs)
    past ih h =
        let e : sum_by f (take n xs) ≡ sum_by f (take (suc n) xs) = ap (sum_by f) (take_all n xs h ∙ sym (take_all (suc n) xs (omega arith))) in
        omega (arith, before_more (λ p. f (get_or xs p 0)) n, ih, ap f (get_or_past xs n 0 h), e)

pub before_take : (rs : List ℕ) (n : ℕ) → before (share rs) n ≡ sum (take n rs)
before_take rs n = before_by (λ x. x) rs n refl

pub before_total : (S m : ℕ) (rs : List ℕ) (n : ℕ) → Fit S m rs → before (share rs) n ≤ m * S
before_total S m rs n fit = omega (arith, before_take rs n, sum_by-take-le (λ x. x) rs n, fit.total)
