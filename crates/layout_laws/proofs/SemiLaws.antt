-- The two laws of the semi-partitioned layout.
use Rattle.std.proofs.Common.{◌≡◌, ℕ, zero, suc, ◌+◌, ◌-◌, ◌*◌, ◌%◌, ◌<◌, ◌≤◌, Bool, true, false, cond, if◌then◌else◌, ltb, nat_le, ◌⊎◌, List, length, Some, None, sym, refl, ap, ◌∙◌, subst, inl, inr, ⊎_elim, arith}
use Rattle.std.proofs.lemmas.List.{get_or_past}
use Rattle.std.proofs.lemmas.Bool.Decides.{nat_tests}
use Rattle.std.proofs.lemmas.Bool.{cases_order, cases_lt, ltb-true, ltb-false}
use Rattle.layout_laws.specs.Offset.{offset}
use Rattle.plan.specs.Method.{full}
use Rattle.layout_laws.specs.Meaning.{supplied, Formed, Exclusive, Supplies}
use Rattle.layout_laws.specs.Shares.{share, before, Fit, Carry}
use Rattle.layout_laws.specs.Semi.{room, free, shared, highest, own_serves, shared_serves, semi_serves, semi, Holds}
use Rattle.layout_laws.proofs.Offset.{offset_is, same_near}
use Rattle.layout_laws.proofs.Sums.{before_none, before_more, before_mono, before_add, before_total}
use Rattle.layout_laws.proofs.Supply.{timed, timed_formed, supply_of, supply_none}
use Rattle.layout_laws.proofs.FlatLaws.{answered}

-- what is found lies between two values of f
record Found (f : ℕ → ℕ) (x n q : ℕ) : Type 0 where
  known : q < n
  from : f q ≤ x
  to : x < f (suc q)

pub highest_here : (f : ℕ → ℕ) (x n : ℕ) → f n ≤ x → highest f x (suc n) ≡ n
unfolding highest
highest_here f x n h = grind (arith, nat_tests)

pub highest_lower : (f : ℕ → ℕ) (x n : ℕ) → x < f n → highest f x (suc n) ≡ highest f x n
unfolding highest
highest_lower f x n h = grind (arith, nat_tests)

pub highest_same : (f g : ℕ → ℕ) (x n : ℕ) → ((k : ℕ) → k < n → f k ≡ g k) → highest f x n ≡ highest g x n
unfolding highest
highest_same f g x zero e = refl
highest_same f g x (suc n) e =
    ap (λ y. if nat_le y x then n else highest f x n) (e n (omega arith)) ∙ ap (λ y. if nat_le (g n) x then n else y) (highest_same f g x n (λ k h. e k (omega arith)))

found : (f : ℕ → ℕ) (x n : ℕ) → f 0 ≤ x → x < f n → Found f x n (highest f x n)
unfolding highest
found f x zero low high = absurd (omega arith)
found f x (suc n) low high =
    ⊎_elim (λ h. let r = found f x n low h in subst (Found f x (suc n)) (sym (highest_lower f x n h)) (record { known = omega (arith, r.known); from = r.from; to = r.to }))
    (λ h. subst (Found f x (suc n)) (sym (highest_here f x n h)) (record { known = omega arith; from = h; to = high })) (cases_lt x (f n))

module _ (S m : ℕ) (rs : List ℕ) (fit : Fit S m rs) where
  -- what is left over and what is reserved make up the processors
  free_total : (n : ℕ) → free S rs n + before (share rs) n ≡ n * S
  free_total zero = omega (arith, before_none (room S rs), before_none (share rs))
  free_total (suc n) = omega (arith, before_more (room S rs) n, before_more (share rs) n, free_total n, fit.each n)

  -- past bin p
  shared_more : (p : ℕ) → m ≤ p → before (λ i. share rs (m + i)) (suc (p - m)) ≡ shared m rs p + share rs p
  shared_more p h =
      let e : m + (p - m) ≡ p = omega arith in
      omega (arith, before_more (λ i. share rs (m + i)) (p - m), ap (share rs) e)

  shared_fits : (p : ℕ) → m ≤ p → shared m rs p + share rs p ≤ free S rs m
  shared_fits p h =
      let e : m + suc (p - m) ≡ suc p = omega arith in
      omega (arith, shared_more p h, before_add (share rs) m (suc (p - m)), ap (before (share rs)) e, before_total S m rs (suc p) fit, free_total m)

  held : (p k : ℕ) → m ≤ p → k < share rs p → Holds S rs m (shared m rs p + k) (highest (free S rs) (shared m rs p + k) m)
  held p k h l =
      let f = found (free S rs) (shared m rs p + k) m (omega (arith, before_none (room S rs))) (omega (arith, shared_fits p h)) in
      record { known = f.known; from = f.from; to = f.to }

  -- one tick's answer: by the bin's own processor, or by the one that holds its shared slot
  record Own (t p q : ℕ) : Type 0 where
    mine : q ≡ p
    known : p < m
    early : offset S (free S rs (suc p)) t < share rs p

  record Lent (t p q : ℕ) : Type 0 where
    high : m ≤ p
    early : offset S (shared m rs p) t < share rs p
    holds : Holds S rs m (shared m rs p + offset S (shared m rs p) t) q

  split : (t p q : ℕ) → semi_serves S m rs t p ≡ Some q → Own t p q ⊎ Lent t p q
  split t p q e = go (ltb p m) refl e
    where
      go : (b : Bool) → ltb p m ≡ b → cond b (own_serves S rs t p) (shared_serves S m rs t p) ≡ Some q → Own t p q ⊎ Lent t p q
      go true h e =
          let a = answered (offset S (free S rs (suc p)) t) (share rs p) p q e in
          inl (record { mine = sym a.by; known = ltb-true p m h; early = a.early })
      go false h e =
          let x : ℕ = shared m rs p + offset S (shared m rs p) t in
          let a = answered (offset S (shared m rs p) t) (share rs p) (highest (free S rs) x m) q e in
          let l : m ≤ p = ltb-false p m h in
          inr (record { high = l; early = a.early; holds = subst (λ y. Holds S rs m x y) a.by (held p (offset S (shared m rs p) t) l a.early) })

  within : (t p q : ℕ) → semi_serves S m rs t p ≡ Some q → q < m
  within t p q e = ⊎_elim (λ o. subst (λ x. x < m) (sym o.mine) o.known) (λ l. l.holds.known) (split t p q e)

  -- a processor's own bin, and one that shares it
  mixed : (t p p' q : ℕ) → Own t p q → Lent t p' q → ⊥
  mixed t p p' q o l =
      let k = offset S (free S rs (suc q)) t in
      let x = shared m rs p' + offset S (shared m rs p') t in
      let early : k < share rs q = subst (λ y. offset S (free S rs (suc y)) t < share rs y) (sym o.mine) o.early in
      let meet : x % S ≡ (free S rs (suc q) + k) % S = (offset_is S (shared m rs p') t fit.some).meets ∙ sym (offset_is S (free S rs (suc q)) t fit.some).meets in
      let below : x < free S rs (suc q) + k = omega (arith, l.holds.to) in
      let near : free S rs (suc q) + k < x + S = omega (arith, l.holds.from, before_more (room S rs) q, fit.each q) in
      let same : x ≡ free S rs (suc q) + k = same_near S x (free S rs (suc q) + k) meet (omega arith) near in
      omega arith

  -- two bins that share a processor
  lenders : (t p p' q : ℕ) → p < p' → Lent t p q → Lent t p' q → ⊥
  lenders t p p' q less l l' =
      let x = shared m rs p + offset S (shared m rs p) t in
      let x' = shared m rs p' + offset S (shared m rs p') t in
      let up : before (λ i. share rs (m + i)) (suc (p - m)) ≤ shared m rs p' = before_mono (λ i. share rs (m + i)) (suc (p - m)) (p' - m) (omega (arith, l.high)) in
      let below : x < x' = omega (arith, l.early, shared_more p l.high) in
      let near : x' < x + S = omega (arith, l.holds.from, l'.holds.to, before_more (room S rs) q) in
      let meet : x % S ≡ x' % S = (offset_is S (shared m rs p) t fit.some).meets ∙ sym (offset_is S (shared m rs p') t fit.some).meets in
      let same : x ≡ x' = same_near S x x' meet (omega arith) near in
      omega arith

  apart : (t p p' q : ℕ) → semi_serves S m rs t p ≡ Some q → semi_serves S m rs t p' ≡ Some q → p ≡ p'
  apart t p p' q e e' = pairs (split t p q e) (split t p' q e')
    where
      pairs : Own t p q ⊎ Lent t p q → Own t p' q ⊎ Lent t p' q → p ≡ p'
      pairs (inl o) (inl o') = sym o.mine ∙ o'.mine
      pairs (inl o) (inr l') = absurd (mixed t p p' q o l')
      pairs (inr l) (inl o') = absurd (mixed t p' p q o' l)
      pairs (inr l) (inr l') =
          ⊎_elim (λ s. s) (⊎_elim (λ d. absurd (lenders t p p' q d l l')) (λ d. absurd (lenders t p' p q d l' l))) (cases_order p p')

pub one_holder : (S m : ℕ) (rs : List ℕ) (x q q' : ℕ) → Holds S rs m x q → Holds S rs m x q' → q ≡ q'
one_holder S m rs x q q' h h' = ⊎_elim (λ s. s) (⊎_elim (λ l. lower q q' h h' l) (λ l. sym (lower q' q h' h l))) (cases_order q q')
  where
    lower : (q q' : ℕ) → Holds S rs m x q → Holds S rs m x q' → q < q' → q ≡ q'
    lower q q' h h' l = absurd (omega (arith, h.to, h'.from, before_mono (room S rs) (suc q) q' l))

pub semi_exclusive : (S m T : ℕ) (rs ws : List ℕ) → Fit S m rs → Exclusive (semi S m T rs ws)
semi_exclusive S m T rs ws fit = record {
  within = λ t p q e. within S m rs fit t p q (timed t (semi_serves S m rs t p) q e);
  apart = λ t p p' q e e'. apart S m rs fit t p p' q (timed t (semi_serves S m rs t p) q e) (timed t (semi_serves S m rs t p') q e');
}

pub semi_supply : (S m δ T : ℕ) (rs ws : List ℕ) → Fit S m rs → (0 < length ws → Carry S δ T rs ws) → Supplies (semi S m T rs ws)
semi_supply S m δ T rs ws fit carry p t l long far = ⊎_elim some none (cases_lt 0 (length ws))
  where
    some : 0 < length ws → (semi S m T rs ws).load p * l ≤ supplied (semi S m T rs ws) p t l * full
    some k = ⊎_elim own lent (cases_lt p m)
      where
        own : p < m → (semi S m T rs ws).load p * l ≤ supplied (semi S m T rs ws) p t l * full
        own h =
            supply_of (semi S m T rs ws) S δ T rs ws p (free S rs (suc p)) (λ u. p) fit (carry k) refl (λ u. grind (arith, nat_tests)) t l long far

        lent : m ≤ p → (semi S m T rs ws).load p * l ≤ supplied (semi S m T rs ws) p t l * full
        lent h =
            supply_of (semi S m T rs ws) S δ T rs ws p (shared m rs p) (λ u. highest (free S rs) (shared m rs p + offset S (shared m rs p) u) m) fit (carry k) refl (λ u. grind (arith, nat_tests)) t l long far

    none : length ws ≤ 0 → (semi S m T rs ws).load p * l ≤ supplied (semi S m T rs ws) p t l * full
    none h = supply_none (semi S m T rs ws) p t l (get_or_past ws p 0 (omega arith))

pub none_serves : (S m : ℕ) (rs : List ℕ) (t p : ℕ) → length rs ≤ p → semi_serves S m rs t p ≡ None
none_serves S m rs t p h = let none : share rs p ≡ 0 = get_or_past rs p 0 h in grind (arith, nat_tests)

pub semi_formed : (S m T : ℕ) (rs ws : List ℕ) → 1 ≤ m → m ≤ 16 → length rs ≡ length ws → length ws ≤ 64 → Formed (semi S m T rs ws)
semi_formed S m T rs ws some most each few =
    timed_formed m T ws (semi_serves S m rs) some most few (λ t p h. none_serves S m rs t p (omega arith))
