-- Digits, one by one.
use Rattle.std.proofs.Common.{◌≡◌, ℕ, zero, suc, ◌+◌, ◌/◌, ◌%◌, ◌^◌, ◌<◌, ◌≤◌, List, [], ◌∷◌, ◌++◌, map, length, get_or, take, drop, sym, refl, ap, ◌∙◌, arith}
use Rattle.std.specs.Int.Digits.{digits_of, number_from_digits, AllBelowBase}
use Rattle.std.proofs.lemmas.Int.Digits.{digits_of_step, length-digits_of_step, length-digits_of-le, all_below_base_digits_of, number_more, number_digits_of}
use Rattle.std.proofs.ByRecursion.{All-get_or}
use Rattle.std.proofs.lemmas.List.{length-append, length-drop, length-map, map-append, get_or-map}
use Rattle.line_text.specs.Decimals.{digits}

-- the digits as numbers below ten; zero has the one digit 0
pub figures : ℕ → List ℕ
figures zero = 0 ∷ []
figures (suc n) = digits_of 10 (suc n)

pub digits_figures : (n : ℕ) → digits n ≡ map (λ d. 48 + d) (figures n)
unfolding digits figures
digits_figures zero = refl
digits_figures (suc n) = refl

pub length_figures : (n : ℕ) → length (digits n) ≡ length (figures n)
length_figures n = ap length (digits_figures n) ∙ length-map (figures n) (λ d. 48 + d)

pub number_figures : (n : ℕ) → number_from_digits 10 (figures n) ≡ n
unfolding figures
number_figures zero = refl
number_figures (suc n) = number_digits_of 10 (suc n) (omega arith)

pub under_figures : (n : ℕ) → AllBelowBase 10 (figures n)
unfolding figures
under_figures zero = (omega arith, tt)
under_figures (suc n) = all_below_base_digits_of 10 (suc n) (omega arith)

pub figures_some : (n : ℕ) → 0 < n → figures n ≡ digits_of 10 n
unfolding figures
figures_some zero h = absurd (omega arith)
figures_some (suc n) h = refl

pub one_digit : (n : ℕ) → n < 10 → length (digits n) ≡ 1
unfolding digits
one_digit zero h = refl
one_digit (suc n) h =
    let none : suc n / 10 ≡ 0 = omega arith in
    length-map (digits_of 10 (suc n)) (λ d. 48 + d) ∙ length-digits_of_step 10 (suc n) (omega arith) (omega arith) ∙ ap (λ q. length (digits_of 10 q) + 1) none

pub few_digits : (k n : ℕ) → 0 < k → n < 10 ^ k → length (digits n) ≤ k
unfolding digits
few_digits k zero some h = some
few_digits k (suc n) some h = omega (arith, length-map (digits_of 10 (suc n)) (λ d. 48 + d), length-digits_of-le 10 k (suc n) (omega arith) h)

pub some_digits : (n : ℕ) → 0 < length (digits n)
unfolding digits
some_digits zero = omega arith
some_digits (suc n) = omega (arith, length-map (digits_of 10 (suc n)) (λ d. 48 + d), length-digits_of_step 10 (suc n) (omega arith) (omega arith))

pub more_digits : (n : ℕ) → 10 ≤ n → length (digits n) ≡ length (digits (n / 10)) + 1
more_digits n h =
    let front : 0 < n / 10 = omega arith in
    length_figures n ∙ ap length (figures_some n (omega arith)) ∙ length-digits_of_step 10 n (omega arith) (omega arith) ∙ ap (λ l. length l + 1) (sym (figures_some (n / 10) front)) ∙ ap (λ k. k + 1) (sym (length_figures (n / 10)))

-- the digit at a place, where v is what the digits up to it say
pub digit_at : (n k v : ℕ) → k < length (digits n) → v ≡ number_from_digits 10 (take (k + 1) (figures n)) → (get_or (digits n) k 0 ≡ 48 + v % 10) × (v / 10 ≡ number_from_digits 10 (take k (figures n)))
digit_at n k v h e =
    let more = number_more 10 (figures n) k (omega (arith, length_figures n)) in
    let small = All-get_or (λ d. d < 10) (figures n) k 0 (omega (arith, length_figures n)) (under_figures n) in
    let same = ap (λ l. get_or l k 0) (digits_figures n) ∙ get_or-map (λ d. 48 + d) (figures n) k 0 0 (omega (arith, length_figures n)) in
    (omega (arith, same, e, more, small), omega (arith, e, more, small))

pub spelled_one : (n : ℕ) → n < 10 → digits n ≡ (48 + n) ∷ []
unfolding digits
spelled_one zero h = refl
spelled_one (suc n) h =
    let none : suc n / 10 ≡ 0 = omega arith in
    let self : suc n % 10 ≡ suc n = omega arith in
    ap (map (λ d. 48 + d)) (digits_of_step 10 (suc n) (omega arith) (omega arith)) ∙ ap (λ q. map (λ d. 48 + d) (digits_of 10 q ++ (suc n % 10 ∷ []))) none ∙ ap (λ d. (48 + d) ∷ []) self

-- the last digit behind those of the tenth part
pub spelled_more : (n : ℕ) → 10 ≤ n → digits n ≡ digits (n / 10) ++ ((48 + n % 10) ∷ [])
spelled_more n h =
    let front : 0 < n / 10 = omega arith in
    digits_figures n ∙ ap (map (λ d. 48 + d)) (figures_some n (omega arith) ∙ digits_of_step 10 n (omega arith) (omega arith) ∙ ap (λ l. l ++ (n % 10 ∷ [])) (sym (figures_some (n / 10) front))) ∙ map-append (λ d. 48 + d) (figures (n / 10)) (n % 10 ∷ []) ∙ ap (λ l. l ++ ((48 + n % 10) ∷ [])) (sym (digits_figures (n / 10)))

-- 20 places are enough for a number of 64 bits: one is left for each digit of the rest
pub place_left : (n rest at : ℕ) (bytes : List ℕ) → n < 2 ^ 64 → 10 ≤ rest → length bytes ≡ 20 → at ≤ 19 → digits rest ++ drop (at + 1) bytes ≡ digits n → 1 ≤ at
place_left n rest at bytes fits more size within e =
    let all : length (digits rest) + length (drop (at + 1) bytes) ≡ length (digits n) = sym (length-append (digits rest) (drop (at + 1) bytes)) ∙ ap length e in
    omega (arith, all, length-drop (at + 1) bytes, size, more_digits rest more, some_digits (rest / 10), few_digits 20 n (omega arith) (omega arith))
