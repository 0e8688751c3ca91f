-- What a pen was given, put together.
use Rattle.std.proofs.Common.{◌≡◌, ℕ, ◌+◌, ◌<◌, List, [], ◌∷◌, ◌++◌, length, get_or, take, sym, refl, ap, ◌∙◌, subst, arith}
use Rattle.std.specs.List.{flat_map}
use Rattle.std.proofs.lemmas.List.{length-append, take_more, flat_map_more}
use Rattle.areas.proofs.Placing.{placed_nothing, placed_then}
use Rattle.areas.specs.declared.pen.Pen.{Pen}
use Rattle.areas.specs.Pens.{Puts}

-- one after the other
pub puts_then : {a b c : Pen} {xs ys : List ℕ} → Puts a xs b → Puts b ys c → Puts a (xs ++ ys) c
puts_then {a} {b} {c} {xs} {ys} p q =
    let both = length-append xs ys in
    record {
      lent = q.lent ∙ p.lent;
      sized = q.sized ∙ p.sized;
      counted = omega (arith, both, p.counted, q.counted);
      written = λ fit. placed_then a.area.now b.area.now c.area.now xs ys a.len b.len (p.written (omega (arith, both, fit))) (q.written (omega (arith, both, fit, p.counted, p.sized))) (omega (arith, both, fit, p.counted)) (omega (arith, both, fit));
    }

pub puts_nothing : (a : Pen) → Puts a [] a
puts_nothing a = record { lent = refl; sized = refl; counted = omega arith; written = λ fit. sym (placed_nothing a.area.now a.len) }

-- the first i elements by their pieces, and one more
pub puts_more : {X : Type 0} {a b c : Pen} (f : X → List ℕ) (xs : List X) (i : ℕ) (x d : X) → i < length xs → x ≡ get_or xs i d → Puts a (flat_map f (take i xs)) b → Puts b (f x) c → Puts a (flat_map f (take (i + 1) xs)) c
puts_more {X} {a} {b} {c} f xs i x d h e p q =
    subst (λ bs. Puts a bs c) (flat_map_more f [] (take i xs) x ∙ ap (flat_map f) (ap (λ y. take i xs ++ y ∷ []) e ∙ sym (take_more xs i d h))) (puts_then p q)
