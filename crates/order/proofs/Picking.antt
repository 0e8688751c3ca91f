-- The least marked record, one record after another; and that there is only one such place.
use Rattle.std.proofs.Common.{◌≡◌, ℕ, nat_eq, suc, ◌+◌, ◌<◌, Bool, true, false, List, [], ◌∷◌, length, get_or, Some, None, Option, fold, filter, map, cond, sym, refl, ap, ◌∙◌, subst, ⊎_elim, suc-le-suc, zero-le, not-suc-le-zero, arith, below_more}
use Rattle.std.specs.Cmp.{IsStrictWeakOrder}
use Rattle.std.specs.List.{enumerate_from, reduce, FoldsTo}
use Rattle.std.specs.Fn.{Called}
use Rattle.std.specs.Iterator.{FoldTurn, ReducesItems}
use Rattle.std.proofs.lemmas.Iterator.{YieldsList}
use Rattle.std.proofs.lemmas.Iterator.Consumers.{YieldsList-end}
use denote.Param.Members.{Mut}
use Rattle.std.specs.Option.{option_eq, option_map}
use Rattle.std.proofs.lemmas.Bool.{both_ways, eqb-true, eqb-false, cases_Bool, cases_order}
use Rattle.order.specs.Picks.{Least, Picked}

-- a mark that passes the test is that mark, and the other way round
bears : (o : Option ℕ) (m : ℕ) → option_eq nat_eq o (Some m) ≡ true → o ≡ Some m
bears (Some own) m e = ap Some (eqb-true own m e)
bears None m e = cc

bears_not : (o : Option ℕ) (m : ℕ) → option_eq nat_eq o (Some m) ≡ false → o ≡ Some m → ⊥
bears_not (Some own) m e f = eqb-false own m e (cc)
bears_not None m e f = cc

-- no record comes before itself
pub irreflexive : {X : Type 0} (less : X → X → Bool) → IsStrictWeakOrder less → (x : X) → less x x ≡ false
irreflexive less o x = ⊎_elim (λ (t : less x x ≡ true). o.one_way x x t) (λ (f : less x x ≡ false). f) (cases_Bool (less x x))

-- what comes before z comes before each y that does not
pub over : {X : Type 0} (less : X → X → Bool) → IsStrictWeakOrder less → (x y z : X) → less x z ≡ true → less y z ≡ false → less x y ≡ true
over less o x y z a b =
    ⊎_elim (λ (t : less x y ≡ true). t) (λ (f : less x y ≡ false). elim (both_ways (less x z) (o.chain x y z f b) a) [ ]) (cases_Bool (less x y))

-- the step from the first n records to one more, the record x at n
module _ {X : Type 0} (less : X → X → Bool) (mark : X → Option ℕ) (o : IsStrictWeakOrder less) (m : ℕ) (xs : List X) (n : ℕ) (x : X) (here : (d : X) → x ≡ get_or xs n d) where
  -- x does not bear the mark
  pub skip : (r : Option ℕ) → (mark x ≡ Some m → ⊥) → Picked less mark m xs n r → Picked less mark m xs (n + 1) r
  skip None other h = λ k d l. below_more (λ j. mark (get_or xs j d) ≡ Some m → ⊥) n (λ j l'. h j d l') (λ e. other (ap mark (here d) ∙ e)) k l
  skip (Some b) other h = record {
    inside = let i = h.inside in omega arith;
    bearing = h.bearing;
    least = λ k d l. below_more (λ j. mark (get_or xs j d) ≡ Some m → less (get_or xs j d) (get_or xs b d) ≡ false) n (λ j l'. h.least j d l') (λ e. elim (other (ap mark (here d) ∙ e)) [ ]) k l;
    first = h.first;
  }

  -- x comes before all that bear the mark so far
  takes : mark x ≡ Some m → ((k : ℕ) (d : X) → k < n → mark (get_or xs k d) ≡ Some m → less x (get_or xs k d) ≡ true) → Picked less mark m xs (n + 1) (Some n)
  takes has all = record {
    inside = omega arith;
    bearing = λ d. sym (ap mark (here d)) ∙ has;
    least = λ k d l. below_more (λ j. mark (get_or xs j d) ≡ Some m → less (get_or xs j d) (get_or xs n d) ≡ false) n (λ j l' e. ap (less (get_or xs j d)) (sym (here d)) ∙ o.one_way x (get_or xs j d) (all j d l' e)) (λ e. irreflexive less o (get_or xs n d)) k l;
    first = λ k d l e. sym (ap (λ y. less y (get_or xs k d)) (here d)) ∙ all k d l e;
  }

  -- x is the first to bear it
  pub begin : mark x ≡ Some m → Picked less mark m xs n None → Picked less mark m xs (n + 1) (Some n)
  begin has h = takes has (λ k d l e. elim (h k d l e) [ ])

  -- x bears it, and so does y, the best so far, which stands at b
  module _ (b : ℕ) (y : X) (there : (d : X) → y ≡ get_or xs b d) (h : Picked less mark m xs n (Some b)) where
    pub keep : less x y ≡ false → Picked less mark m xs (n + 1) (Some b)
    keep late = record {
      inside = let i = h.inside in omega arith;
      bearing = h.bearing;
      least = λ k d l. below_more (λ j. mark (get_or xs j d) ≡ Some m → less (get_or xs j d) (get_or xs b d) ≡ false) n (λ j l'. h.least j d l') (λ e. let p = here d in let q = there d in cc) k l;
      first = h.first;
    }

    pub change : mark x ≡ Some m → less x y ≡ true → Picked less mark m xs (n + 1) (Some n)
    change has lt = takes has (λ k d l e. over less o x (get_or xs k d) y lt (ap (less (get_or xs k d)) (there d) ∙ h.least k d l e))

-- the pick as a chain makes it: the records are numbered, those that bear m are left, and of two the nearer one stays
abbrev pub nearer : {X : Type 0} → (X → X → Bool) → ℕ × X → ℕ × X → ℕ × X
nearer less best next = cond (less next.1 best.1) next best

abbrev pub bearer : {X : Type 0} → (X → Option ℕ) → ℕ → ℕ × X → Bool
bearer mark m p = option_eq nat_eq (mark p.1) (Some m)

module _ {X : Type 0} (less : X → X → Bool) (mark : X → Option ℕ) (o : IsStrictWeakOrder less) (m : ℕ) (xs : List X) where
  -- ys are the records from place n on
  abbrev Behind : ℕ → List X → Type 0
  Behind n ys = (k : ℕ) (d : X) → k < length ys → get_or xs (n + k) d ≡ get_or ys k d

  abbrev Is : ℕ → Option (ℕ × X) → Type 0
  Is n r = Picked less mark m xs n (option_map (λ p. p.0) r)

  -- one more is y, at place n
  here : (n : ℕ) (y : X) (ys : List X) → Behind n (y ∷ ys) → (d : X) → y ≡ get_or xs n d
  here n y ys at d = sym (at 0 d (suc-le-suc zero-le)) ∙ ap (λ j. get_or xs j d) (let e : n + 0 ≡ n = omega arith in e)

  after : (n : ℕ) (y : X) (ys : List X) → Behind n (y ∷ ys) → Behind (n + 1) ys
  after n y ys at k d l = ap (λ j. get_or xs j d) (let e : n + 1 + k ≡ n + suc k = omega arith in e) ∙ at (suc k) d (suc-le-suc l)

  -- the best so far stays, or y is the best now
  abbrev Holds : ℕ → ℕ × X → Type 0
  Holds n best = ((d : X) → best.1 ≡ get_or xs best.0 d) × Is n (Some best)

  turn : (n : ℕ) (y : X) (best : ℕ × X) → ((d : X) → y ≡ get_or xs n d) → mark y ≡ Some m → Holds n best → Holds (n + 1) (nearer less best (n, y))
  turn n y best is has h =
      ⊎_elim
      (λ (lt : less y best.1 ≡ true). rw lt (is, change less mark o m xs n y is best.0 best.1 h.0 h.1 has lt))
      (λ (late : less y best.1 ≡ false). rw late (h.0, keep less mark o m xs n y is best.0 best.1 h.0 h.1 late))
      (cases_Bool (less y best.1))

  goes_on : (n : ℕ) (ys : List X) (best : ℕ × X) → Behind n ys → n + length ys ≡ length xs → Holds n best → Is (length xs) (Some (fold (nearer less) best (filter (bearer mark m) (enumerate_from n ys))))
  goes_on n [] best at all h = subst (λ j. Is j (Some best)) (let e : n ≡ length xs = omega arith in e) h.1
  goes_on n (y ∷ ys) best at all h =
      let is = here n y ys at in
      let behind = after n y ys at in
      ⊎_elim
      (λ (t : bearer mark m (n, y) ≡ true). rw t (goes_on (n + 1) ys (nearer less best (n, y)) behind (omega arith) (turn n y best is (bears (mark y) m t) h)))
      (λ (f : bearer mark m (n, y) ≡ false). rw f (goes_on (n + 1) ys best behind (omega arith) (h.0, skip less mark o m xs n y is (Some best.0) (bears_not (mark y) m f) h.1)))
      (cases_Bool (bearer mark m (n, y)))

  -- there is none so far
  starts : (n : ℕ) (ys : List X) → Behind n ys → n + length ys ≡ length xs → Is n None → Is (length xs) (reduce (nearer less) (filter (bearer mark m) (enumerate_from n ys)))
  starts n [] at all h = subst (λ j. Is j None) (let e : n ≡ length xs = omega arith in e) h
  starts n (y ∷ ys) at all h =
      let is = here n y ys at in
      let behind = after n y ys at in
      ⊎_elim
      (λ (t : bearer mark m (n, y) ≡ true). rw t (goes_on (n + 1) ys (n, y) behind (omega arith) (is, begin less mark o m xs n y is (bears (mark y) m t) h)))
      (λ (f : bearer mark m (n, y) ≡ false). rw f (starts (n + 1) ys behind (omega arith) (skip less mark o m xs n y is None (bears_not (mark y) m f) h)))
      (cases_Bool (bearer mark m (n, y)))

  pub chain_picks : Is (length xs) (reduce (nearer less) (filter (bearer mark m) (enumerate_from 0 xs)))
  chain_picks = starts 0 xs (λ k d l. ap (λ j. get_or xs j d) (let e : 0 + k ≡ k = omega arith in e)) (omega arith) (λ k d l e. absurd (omega arith))

-- a view of the record leaves its number
pub number_stays : {A B : Type 0} (v : A → B) (r : Option (ℕ × A)) → option_map (λ p. p.0) r ≡ option_map (λ (p : ℕ × B). p.0) (option_map (λ p. (p.0, v p.1)) r)
number_stays v None = refl
number_stays v (Some p) = refl

-- `reduce` where the closure computes h of what v reads
module _ {A B F : Type 0} (v : A → B) (g : Mut F (A × (A × Unit {0})) A) (h : B → B → B) (f : F) (computes : (a x b : A) (q : F) → Called g f (a, (x, tt)) b q → (q ≡ f) × (v b ≡ h (v a) (v x))) where
  folds : (xs : List A) (p q : F × A) → p.0 ≡ f → FoldsTo (FoldTurn g) p xs q → v q.1 ≡ fold h (v p.1) (map v xs)
  folds [] p q e c = ap (λ w. v w.1) (sym c)
  folds (x ∷ xs) p q e c =
      let w = computes p.1 x c.0.1 c.0.0 (subst (λ k. Called g k (p.1, (x, tt)) c.0.1 c.0.0) e c.1) in
      folds xs c.0 q w.0 c.2 ∙ ap (λ b. fold h b (map v xs)) w.1

  pub reduces : {S : Type 0} {steps : S → Option A → S → Type 0} {s : S} {all : List B} (r : Option A) → ReducesItems steps g s f r → YieldsList steps v s all → option_map v r ≡ reduce h all
  reduces None d e = ap (reduce h) (YieldsList-end e [] d.1.0 d.1.1 None d.0 refl d.1.2).0
  reduces (Some y) d e = ap Some (folds d.1 (f, d.0) (d.2, y) refl d.4) ∙ ap (reduce h) (YieldsList-end e (d.0 ∷ d.1) d.3.1.0 d.3.1.1 None d.3.0 refl d.3.1.2).0

-- two places that are picked are one place
both_picked : {X : Type 0} (less : X → X → Bool) (mark : X → Option ℕ) (m : ℕ) (xs : List X) (n i j : ℕ) (d : X) → Least less mark m xs n i → Least less mark m xs n j → i < j → ⊥
both_picked less mark m xs n i j d p q l =
    both_ways (less (get_or xs j d) (get_or xs i d)) (p.least j d q.inside (q.bearing d)) (q.first i d l (p.bearing d))

once_at : {X : Type 0} (less : X → X → Bool) (mark : X → Option ℕ) (m : ℕ) (xs : List X) (n : ℕ) (d : X) (a b : Option ℕ) → Picked less mark m xs n a → Picked less mark m xs n b → a ≡ b
once_at less mark m xs n d None None p q = refl
once_at less mark m xs n d None (Some j) p q = elim (p j d q.inside (q.bearing d)) [ ]
once_at less mark m xs n d (Some i) None p q = elim (q i d p.inside (p.bearing d)) [ ]
once_at less mark m xs n d (Some i) (Some j) p q =
    ⊎_elim (λ (e : i ≡ j). ap Some e)
    (⊎_elim (λ (l : i < j). elim (both_picked less mark m xs n i j d p q l) [ ])
    (λ (l : j < i). elim (both_picked less mark m xs n j i d q p l) [ ]))
    (cases_order i j)

-- the list says where to look, so that there is just one answer
pub picked_once : {X : Type 0} (less : X → X → Bool) (mark : X → Option ℕ) (m : ℕ) (xs : List X) (a b : Option ℕ) → Picked less mark m xs (length xs) a → Picked less mark m xs (length xs) b → a ≡ b
picked_once less mark m [] None None p q = refl
picked_once less mark m [] None (Some j) p q = let h = q.inside in elim (not-suc-le-zero h) [ ]
picked_once less mark m [] (Some i) b p q = let h = p.inside in elim (not-suc-le-zero h) [ ]
picked_once less mark m (x ∷ xs) a b p q = once_at less mark m (x ∷ xs) (length (x ∷ xs)) x a b p q
