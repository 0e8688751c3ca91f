-- The least record that bears a mark, the first of equals.
use Rattle.std.specs.Prelude.{◌≡◌, ℕ, ◌<◌, Bool, true, false, List, Some, None, Option, ◌≢◌, slice_index_or}

-- of the first n records the one at i bears m, none that bears m comes before it, and it comes before each of those ahead of it
pub record Least {X : Type 0} (less : X → X → Bool) (mark : X → Option ℕ) (m : ℕ) (xs : List X) (n i : ℕ) : Type 0 where
  pub inside : i < n
  pub bearing : (d : X) → mark (slice_index_or xs i d) ≡ Some m
  pub least : (k : ℕ) (d : X) → k < n → mark (slice_index_or xs k d) ≡ Some m → less (slice_index_or xs k d) (slice_index_or xs i d) ≡ false
  pub first : (k : ℕ) (d : X) → k < i → mark (slice_index_or xs k d) ≡ Some m → less (slice_index_or xs i d) (slice_index_or xs k d) ≡ true

-- the place of that record, or none where none of the first n bears m
abbrev pub Picked : {X : Type 0} → (X → X → Bool) → (X → Option ℕ) → ℕ → List X → ℕ → Option ℕ → Type 0
Picked {X} less mark m xs n None = (k : ℕ) (d : X) → k < n → mark (slice_index_or xs k d) ≢ Some m
Picked less mark m xs n (Some i) = Least less mark m xs n i
