-- The digits of a number are its decimal ones.
use Rattle.std.proofs.Common.{◌≡◌, ℕ, zero, suc, ◌+◌, ◌-◌, ◌*◌, ◌^◌, ◌<◌, List, [], ◌∷◌, map, length, get_or, decimal, sym, refl, ap, ◌∙◌, subst, arith, rules}
use Rattle.std.specs.Int.Digits.{number_from_digits_after}
use Rattle.std.specs.List.{AllByRecursion}
use Rattle.std.proofs.lemmas.Fmt.{decimal_digit, decimal-digits_of, decimal-digits_value}
use Rattle.std.proofs.lemmas.Int.Digits.{first_digits_of}
use Rattle.std.proofs.ByRecursion.{All-map, All-weaker}
use Rattle.std.proofs.lemmas.List.{get_or-map}
use Rattle.std.proofs.lemmas.Str.Parse.{IsNumeralModel, numerals_by_fold}
use Rattle.line_text.specs.Decimals.{digits, Digit, read_on, Decimal, DigitsLaw}
use Rattle.line_text.proofs.Spelled.{figures, digits_figures, length_figures, number_figures, under_figures, figures_some, one_digit, some_digits}

read_figures : (m : ℕ) (ds : List ℕ) → read_on m (map (λ d. 48 + d) ds) ≡ number_from_digits_after 10 m ds
read_figures m [] = refl
read_figures m (d ∷ ds) =
    let more : 10 * m + (48 + d - 48) ≡ m * 10 + d = omega arith in
    ap (λ k. read_on k (map (λ d. 48 + d) ds)) more ∙ read_figures (m * 10 + d) ds

each_digit : (n : ℕ) → AllByRecursion Digit (digits n)
each_digit n =
    subst (AllByRecursion Digit) (sym (digits_figures n)) (All-map Digit (λ d. 48 + d) (figures n) (All-weaker (λ d. d < 10) (λ d. Digit (48 + d)) (λ d h. (omega arith, omega arith)) (figures n) (under_figures n)))

read_back : (n : ℕ) → read_on 0 (digits n) ≡ n
read_back n = ap (read_on 0) (digits_figures n) ∙ read_figures 0 (figures n) ∙ number_figures n

lead : (n : ℕ) → get_or (digits n) 0 0 ≡ 48 → length (digits n) ≡ 1
lead zero e = one_digit 0 (omega arith)
lead (suc n) e =
    let some : 0 < length (figures (suc n)) = omega (arith, length_figures (suc n), some_digits (suc n)) in
    let first = ap (λ l. get_or l 0 0) (digits_figures (suc n)) ∙ get_or-map (λ d. 48 + d) (figures (suc n)) 0 0 0 some in
    let same = ap (λ l. get_or l 0 0) (figures_some (suc n) (omega arith)) in
    absurd (omega (arith, first, same, first_digits_of 10 (suc n) (omega arith) (omega arith)))

pub decimal_digits : (n : ℕ) → n < 2 ^ 64 → decimal n ≡ digits n
unfolding digits
decimal_digits zero h = decimal_digit 0 (omega arith)
decimal_digits (suc n) h = decimal-digits_of (suc n) (omega arith) h

numerals : IsNumeralModel (AllByRecursion Digit) (read_on 0)
numerals = numerals_by_fold _ (search rules) read_on (search rules)

only : (n : ℕ) → n < 2 ^ 64 → (cs : List ℕ) → Decimal n cs → cs ≡ digits n
only n h cs d =
    sym (decimal-digits_value numerals cs d.each d.some d.lead (omega (arith, d.back))) ∙ ap decimal d.back ∙ decimal_digits n h

pub digits_law : DigitsLaw
digits_law n = (record { some = some_digits n; each = each_digit n; back = read_back n; lead = lead n }, only n)
