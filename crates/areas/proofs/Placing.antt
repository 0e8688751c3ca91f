-- Bytes placed in an area, one piece after the other.
use Rattle.std.proofs.Common.{◌≡◌, ℕ, ◌+◌, ◌≤◌, List, [], ◌∷◌, ◌++◌, length, get_or, take, drop, set, sym, ap, ◌∙◌, arith}
use Rattle.std.proofs.lemmas.List.{append_assoc, length-append, length-take-le, take_at, drop_at, drop-drop, append-nil, take-append-drop, take_more, set_at}
use Rattle.areas.specs.Areas.{placed}

-- one piece behind another
pub placed_more : (area xs ys : List ℕ) (p q : ℕ) → q ≡ p + length xs → p + length xs + length ys ≤ length area → placed (placed area p xs) q ys ≡ placed area p (xs ++ ys)
placed_more area xs ys p q e h =
    let front : length (take p area ++ xs) ≡ q = length-append (take p area) xs ∙ ap (λ n. n + length xs) (length-take-le p area (omega (arith, h))) ∙ sym e in
    let left : take q (placed area p xs) ≡ take p area ++ xs = take_at (take p area ++ xs) (drop (p + length xs) area) q front in
    let right : drop (q + length ys) (placed area p xs) ≡ drop (p + length (xs ++ ys)) area =
    sym (drop-drop (length ys) q (placed area p xs)) ∙ ap (drop (length ys)) (drop_at (take p area ++ xs) (drop (p + length xs) area) q front) ∙ drop-drop (length ys) (p + length xs) area ∙ ap (λ n. drop n area) (omega (arith, length-append xs ys)) in
    ap (λ l. l ++ ys ++ drop (q + length ys) (placed area p xs)) left ∙ ap (λ r. take p area ++ xs ++ ys ++ r) right ∙ ap (λ l. l ++ drop (p + length (xs ++ ys)) area) (append_assoc (take p area) xs ys)

-- the same of an area that was written twice
pub placed_then : (area area₁ area₂ xs ys : List ℕ) (p q : ℕ) → area₁ ≡ placed area p xs → area₂ ≡ placed area₁ q ys → q ≡ p + length xs → p + length xs + length ys ≤ length area → area₂ ≡ placed area p (xs ++ ys)
placed_then area area₁ area₂ xs ys p q a b e h = b ∙ ap (λ l. placed l q ys) a ∙ placed_more area xs ys p q e h

pub placed_nothing : (area : List ℕ) (p : ℕ) → placed area p [] ≡ area
placed_nothing area p =
    let same : p + 0 ≡ p = omega arith in
    ap (λ l. l ++ drop (p + 0) area) (append-nil (take p area)) ∙ ap (λ n. take p area ++ drop n area) same ∙ take-append-drop p area

-- one byte in front of what is placed
pub placed_before : (area xs : List ℕ) (p b : ℕ) → p + 1 + length xs ≤ length area → set (placed area (p + 1) xs) p b ≡ placed area p (b ∷ xs)
placed_before area xs p b h =
    let rest = drop (p + 1 + length xs) area in
    let split : placed area (p + 1) xs ≡ take p area ++ get_or area p 0 ∷ (xs ++ rest) =
    ap (λ l. l ++ xs ++ rest) (take_more area p 0 (omega arith)) ∙ ap (λ l. l ++ rest) (append_assoc (take p area) (get_or area p 0 ∷ []) xs) ∙ append_assoc (take p area) (get_or area p 0 ∷ xs) rest in
    let same : drop (p + length (b ∷ xs)) area ≡ rest = ap (λ n. drop n area) (omega arith) in
    ap (λ l. set l p b) split ∙ set_at (take p area) (get_or area p 0) (xs ++ rest) b p (length-take-le p area (omega arith)) ∙ sym (append_assoc (take p area) (b ∷ xs) (drop (p + length (b ∷ xs)) area) ∙ ap (λ l. take p area ++ b ∷ (xs ++ l)) same)
