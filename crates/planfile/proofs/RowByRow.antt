-- The rows of a table, written one after the other.
use Rattle.std.proofs.Common.{◌≡◌, ℕ, ◌+◌, ◌^◌, ◌<◌, ◌≤◌, w32, List, [], ◌∷◌, ◌++◌, map, length, get_or, take, drop, Some, None, Option, sym, refl, ap, ◌∙◌, arith}
use Rattle.std.specs.List.{flat_map, slice_get}
use Rattle.std.specs.Int.{to_be_bytes}
use Rattle.std.specs.Option.{option_map}
use Rattle.std.proofs.lemmas.Grind.{common_steps}
use Rattle.std.proofs.lemmas.List.{append_assoc, length-append, take-append-drop, take_more, flat_map_more}
use Rattle.std.proofs.lemmas.List.Folds.{flat_map-map}
use Rattle.std.proofs.lemmas.Option.{slice_get-get_or}
use Rattle.plan.specs.Rows.{Task}
use Rattle.plan.specs.declared.row.Row.{Row}
use Rattle.plan.specs.Views.{task_of}
use Rattle.file_reader.specs.Bytes.{four}
use Rattle.file_reader.specs.Grammar.{Taken, row_bytes}
use Rattle.file_reader.proofs.GoodRows.{rows_short}

-- a row in a file
abbrev pub spelled : Row → List ℕ
spelled r = row_bytes (task_of r)

-- rows by their tasks
pub rows_spelled : (rs : List Row) → flat_map row_bytes (map task_of rs) ≡ flat_map spelled rs
rows_spelled rs = flat_map-map row_bytes task_of rs

-- a number's bytes, high byte first
pub long_spelled : (n : ℕ) → n < 2 ^ 32 → to_be_bytes w32 n ≡ four n
long_spelled n h = grind (arith, common_steps)

-- four bytes, one by one
abbrev pub each_of : List ℕ → List ℕ
each_of bs = get_or bs 0 0 ∷ get_or bs 1 0 ∷ get_or bs 2 0 ∷ get_or bs 3 0 ∷ []

-- the rows before one, and that row
pub rows_more : (rs : List Row) (i : ℕ) (r d : Row) → i < length rs → r ≡ get_or rs i d → length (flat_map spelled (take (i + 1) rs)) ≡ length (flat_map spelled (take i rs)) + length (spelled r)
rows_more rs i r d h e = ap length (ap (flat_map spelled) (take_more rs i d h ∙ ap (λ y. take i rs ++ y ∷ []) (sym e)) ∙ sym (flat_map_more spelled [] (take i rs) r)) ∙ length-append (flat_map spelled (take i rs)) (spelled r)

joined_append : {X : Type 0} (b : X → List ℕ) (xs ys : List X) → flat_map b (xs ++ ys) ≡ flat_map b xs ++ flat_map b ys
joined_append b [] ys = refl
joined_append b (x ∷ xs) ys = ap (λ l. b x ++ l) (joined_append b xs ys) ∙ sym (append_assoc (b x) (flat_map b xs) (flat_map b ys))

-- the first rows are no longer than all
pub rows_front_within : (ts : List Task) (i : ℕ) → length (flat_map row_bytes (take i ts)) ≤ length (flat_map row_bytes ts)
rows_front_within ts i =
    let whole : length (flat_map row_bytes ts) ≡ length (flat_map row_bytes (take i ts)) + length (flat_map row_bytes (drop i ts)) = ap (λ l. length (flat_map row_bytes l)) (sym (take-append-drop i ts)) ∙ ap length (joined_append row_bytes (take i ts) (drop i ts)) ∙ length-append (flat_map row_bytes (take i ts)) (flat_map row_bytes (drop i ts)) in
    omega (arith, whole)

pub rows_front_short : (ts : List Task) (i : ℕ) → Taken ts → length (flat_map row_bytes (take i ts)) ≤ 1600
rows_front_short ts i t = omega (arith, rows_front_within ts i, rows_short ts t)

-- a table has each row below its count
pub row_there : (ts : List Task) (i : ℕ) (r : Option Row) → option_map task_of r ≡ slice_get ts i → r ≡ None → i < length ts → ⊥
row_there [] i r e n h = omega (arith, h)
row_there (t ∷ ts) i r e n h =
    let z : None ≡ Some (get_or (t ∷ ts) i t) = sym (ap (option_map task_of) n) ∙ e ∙ slice_get-get_or (t ∷ ts) i t h in
    let w : ◌≡◌ {A = ℕ} 0 1 = cc in omega (arith, w)
