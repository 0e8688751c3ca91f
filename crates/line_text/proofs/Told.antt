-- A line that was put piece by piece.
use Rattle.std.proofs.Common.{◌≡◌, ℕ, ◌+◌, ◌-◌, ◌<◌, ◌≤◌, List, [], ◌∷◌, ◌++◌, length, take, drop, set, sym, ap, ◌∙◌, subst, arith}
use Rattle.std.proofs.lemmas.List.{length-drop, length-set, drop-set, take_all}
use Rattle.areas.specs.declared.pen.Pen.{Pen}
use Rattle.areas.specs.Pens.{Puts}
use Rattle.areas.proofs.Putting.{puts_then}
use Rattle.line_text.specs.Decimals.{digits}
use Rattle.line_text.specs.Texts.{ended}
use Rattle.line_text.proofs.Spelled.{spelled_one}

-- a line of one, two or three pieces, and its end
pub told_one : {a b m z : Pen} {x t : List ℕ} → Puts a x b → m ≡ b → Puts m (10 ∷ []) z → t ≡ ended (x ∷ []) → Puts a t z
told_one {a} {z = z} p e q is = subst (λ bs. Puts a bs z) (sym is) (puts_then p (subst (λ k. Puts k (10 ∷ []) z) e q))

pub told_two : {a b c m z : Pen} {x y t : List ℕ} → Puts a x b → Puts b y c → m ≡ c → Puts m (10 ∷ []) z → t ≡ ended (x ∷ y ∷ []) → Puts a t z
told_two {a} {z = z} p q e r is = subst (λ bs. Puts a bs z) (sym is) (puts_then p (puts_then q (subst (λ k. Puts k (10 ∷ []) z) e r)))

pub told_three : {a b c d m z : Pen} {x y w t : List ℕ} → Puts a x b → Puts b y c → Puts c w d → m ≡ d → Puts m (10 ∷ []) z → t ≡ ended (x ∷ y ∷ w ∷ []) → Puts a t z
told_three {a} {z = z} p q r e s is = subst (λ bs. Puts a bs z) (sym is) (puts_then p (puts_then q (puts_then r (subst (λ k. Puts k (10 ∷ []) z) e s))))

-- a number by the last of its digits, which stand at the end of 20 places, and the first before them
pub told_digits : {a b : Pen} (n rest at d : ℕ) (bytes : List ℕ) → Puts a (take (20 - at) (drop at (set bytes at d))) b → digits rest ++ drop (at + 1) bytes ≡ digits n → d ≡ 48 + rest → rest < 10 → length bytes ≡ 20 → at ≤ 19 → Puts a (digits n) b
told_digits {a} {b} n rest at d bytes p is digit h size within =
    let full = set bytes at d in
    let long : length full ≡ 20 = length-set bytes at d ∙ size in
    let whole = take_all (20 - at) (drop at full) (omega (arith, long, length-drop at full)) in
    let last = drop-set bytes at d (omega (arith, size)) ∙ ap (λ k. k ∷ drop (at + 1) bytes) digit ∙ ap (λ l. l ++ drop (at + 1) bytes) (sym (spelled_one rest h)) in
    subst (λ bs. Puts a bs b) (whole ∙ last ∙ is) p
