-- What one call of a line leaves, where the line before it is known. For crates above.
use Rattle.std.proofs.Common.{◌≡◌, ℕ, List, [], ◌∷◌, length, drop, Some, None, Ok, Err, Option, Result, sym, refl, ap, ◌∙◌, arith}
use Rattle.std.specs.List.{slice_get}
use Rattle.order.specs.declared.ranking.Ranked.{Ghosts}
use Rattle.order.specs.declared.line.Line.{Line}
use Rattle.order.specs.declared.line.LineRefusal.{LineRefusal}
use Rattle.order.specs.Orders.{placed, without}
use Rattle.order.specs.Lines.{held, spare, Put, Take}

module _ {X : Type 0} {g : Ghosts X} (old new : Line X g) where
  -- a put while a slot is free
  pub put_free : (x y : X) (ys : List X) (r : Result (Unit {0}) LineRefusal) → spare old ≡ y ∷ ys → Put x old new r → (held new ≡ placed g.less x (held old)) × (spare new ≡ ys)
  put_free x y ys (Ok done) e h = (h.records, h.free ∙ ap (drop 1) e)
  put_free x y ys (Err why) e h = let f = h.no_room in let n : ◌≡◌ {A = ℕ} 0 1 = cc in (cc, cc)

  -- a put while none is
  pub put_full : (x : X) (r : Result (Unit {0}) LineRefusal) → spare old ≡ [] → Put x old new r → (held new ≡ held old) × (spare new ≡ [])
  put_full x (Ok done) e h = let n = h.room in let l = ap length e in absurd (let o : ⊥ = omega arith in o)
  put_full x (Err why) e h = (h.untouched.records, h.untouched.free ∙ e)

  -- a take of the first record
  pub take_first : (z : X) (zs : List X) (r : Option X) → held old ≡ z ∷ zs → Take 0 old new r → (r ≡ Some z) × (held new ≡ zs) × (spare new ≡ z ∷ spare old)
  take_first z zs (Some x) e h =
      let f : x ≡ z = let g = sym h.was ∙ ap (λ xs. slice_get xs 0) e in cc in
      (ap Some f, h.records ∙ ap (λ xs. without xs 0) e, h.free ∙ ap (λ y. y ∷ spare old) f)
  take_first z zs None e h = let n = h.past in let l = ap length e in absurd (let o : ⊥ = omega arith in o)

  -- a take where there is none
  pub take_none : (r : Option X) → held old ≡ [] → Take 0 old new r → (r ≡ None) × (held new ≡ []) × (spare new ≡ spare old)
  take_none None e h = (refl, h.untouched.records ∙ e, h.untouched.free)
  take_none (Some x) e h = let w = sym h.was ∙ ap (λ xs. slice_get xs 0) e in let n : ◌≡◌ {A = ℕ} 0 1 = cc in absurd (let o : ⊥ = omega arith in o)
