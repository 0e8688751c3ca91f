-- Numbers as decimal digits.
use Rattle.std.specs.Prelude.{◌≡◌, ℕ, zero, suc, ◌+◌, ◌-◌, ◌*◌, ◌^◌, ◌<◌, ◌≤◌, List, [], ◌∷◌, map, length, slice_index_or}
use Rattle.std.specs.Int.Digits.{digits_of}
use Rattle.std.specs.List.{AllByRecursion}

-- the highest digit first; zero has one digit
unfoldable pub digits : ℕ → List ℕ
digits zero = 48 ∷ []
digits (suc n) = map (λ d. 48 + d) (digits_of 10 (suc n))

abbrev pub Digit : ℕ → Type 0
Digit c = (48 ≤ c) × (c ≤ 57)

-- the number that a reader of digits has after them, where it had n before
abbrev pub read_on : ℕ → List ℕ → ℕ
read_on n [] = n
read_on n (c ∷ cs) = read_on (10 * n + (c - 48)) cs

-- what it is for bytes to be the decimal digits of a number: at least one, all of them digits, read back as the number,
-- and the first is a 0 only where it is the only one
pub record Decimal (n : ℕ) (cs : List ℕ) : Type 0 where
  pub some : 0 < length cs
  pub each : AllByRecursion Digit cs
  pub back : read_on 0 cs ≡ n
  pub lead : slice_index_or cs 0 0 ≡ 48 → length cs ≡ 1

-- every number has its digits for its decimal ones, and no number of 64 bits has others
abbrev pub DigitsLaw : Type 0
DigitsLaw = (n : ℕ) → Decimal n (digits n) × (n < 2 ^ 64 → (cs : List ℕ) → Decimal n cs → cs ≡ digits n)
