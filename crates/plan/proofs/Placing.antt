-- First-Fit: the search for a bin, and what putting a charge there leaves.
use Rattle.std.proofs.Common.{sym, ◌≡◌, ℕ, suc, ◌+◌, ◌<◌, true, false, cond, leb, List, [], ◌∷◌, ◌++◌, length, get_or, drop, set, refl, ap, ◌∙◌, arith}
use Rattle.std.proofs.lemmas.List.{at_drop_more}
use Rattle.std.proofs.lemmas.Bool.{cond-true, cond-false}
use Rattle.plan.specs.Method.{full, place, put}

-- the bins from i on: the first of them has room, or has none
module _ (c : ℕ) (ws : List ℕ) (i : ℕ) (sofar : place c ws ≡ i + place c (drop i ws)) where
  pub found : i < length ws → leb (get_or ws i 0 + c) full ≡ true → i ≡ place c ws
  found l room = omega (arith, sofar, at_drop_more (place c) ws i 0 l ∙ cond-true (leb (get_or ws i 0 + c) full) 0 (suc (place c (drop (i + 1) ws))) room)

  pub passed : i < length ws → leb (get_or ws i 0 + c) full ≡ false → place c ws ≡ (i + 1) + place c (drop (i + 1) ws)
  passed l none = omega (arith, sofar, at_drop_more (place c) ws i 0 l ∙ cond-false (leb (get_or ws i 0 + c) full) 0 (suc (place c (drop (i + 1) ws))) none)

-- a charge put into a bin in use, and into a new one
pub put_set : (c : ℕ) (ws : List ℕ) → place c ws < length ws → put c ws ≡ set ws (place c ws) (get_or ws (place c ws) 0 + c)
put_set c [] h = absurd (omega arith)
put_set c (w ∷ ws) h =
    (elim (leb (w + c) full) as (λ b. cond b 0 (suc (place c ws)) < suc (length ws) → cond b ((w + c) ∷ ws) (w ∷ put c ws) ≡ set (w ∷ ws) (cond b 0 (suc (place c ws))) (get_or (w ∷ ws) (cond b 0 (suc (place c ws))) 0 + c)) [ true ↦ λ l. refl | false ↦ λ l. ap (λ vs. w ∷ vs) (put_set c ws (omega arith)) ]) h

-- what is written where a charge is put into a bin in use
pub added : (c : ℕ) (ws : List ℕ) (p v : ℕ) → p ≡ place c ws → p < length ws → v ≡ get_or ws p 0 → set ws p (v + c) ≡ put c ws
added c ws p v at l is =
    ap (λ x. set ws p (x + c)) is ∙ ap (λ q. set ws q (get_or ws q 0 + c)) at ∙ sym (put_set c ws (omega (arith, at)))

pub put_open : (c : ℕ) (ws : List ℕ) → place c ws ≡ length ws → put c ws ≡ ws ++ c ∷ []
put_open c [] h = refl
put_open c (w ∷ ws) h =
    (elim (leb (w + c) full) as (λ b. cond b 0 (suc (place c ws)) ≡ suc (length ws) → cond b ((w + c) ∷ ws) (w ∷ put c ws) ≡ w ∷ (ws ++ c ∷ [])) [ true ↦ λ e. absurd (omega arith) | false ↦ λ e. ap (λ vs. w ∷ vs) (put_open c ws (omega arith)) ]) h
