-- Bytes of a file: numbers as they are spelled and read, high byte first.
use Rattle.std.specs.Prelude.{◌≡◌, ℕ, ◌+◌, ◌*◌, ◌/◌, ◌%◌, List, [], ◌∷◌, ◌++◌, length, take, drop, slice_index}

abbrev pub two : ℕ → List ℕ
two n = n / 256 ∷ n % 256 ∷ []

abbrev pub four : ℕ → List ℕ
four n = two (n / 65536) ++ two (n % 65536)

-- the number whose two, or four, bytes stand at p
abbrev pub word_at : List ℕ → ℕ → ℕ
word_at f p = slice_index f p * 256 + slice_index f (p + 1)

abbrev pub long_at : List ℕ → ℕ → ℕ
long_at f p = word_at f p * 65536 + word_at f (p + 2)

-- these bytes stand in the file, from p on
abbrev pub Stands : List ℕ → ℕ → List ℕ → Type 0
Stands f p bytes = take (length bytes) (drop p f) ≡ bytes
