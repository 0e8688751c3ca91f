-- The two laws of the flat layout.
use Rattle.std.proofs.Common.{◌≡◌, ℕ, suc, ◌+◌, ◌*◌, ◌/◌, ◌<◌, ◌≤◌, cond, ltb, List, length, Some, None, refl, ap, subst, ⊎_elim, arith}
use native.Mathlib.Nat.{div-add-mod}
use Rattle.std.proofs.lemmas.Nat.{div_below}
use Rattle.std.proofs.lemmas.Bool.{cases_order, cases_lt}
use Rattle.std.proofs.lemmas.Bool.Decides.{nat_tests}
use Rattle.std.proofs.lemmas.List.{get_or_past}
use Rattle.plan.specs.Method.{full}
use Rattle.layout_laws.specs.Offset.{offset}
use Rattle.layout_laws.specs.Meaning.{supplied, Formed, Exclusive, Supplies}
use Rattle.layout_laws.specs.Shares.{share, Fit, Carry}
use Rattle.layout_laws.specs.Flat.{start, flat_serves, flat}
use Rattle.layout_laws.proofs.Offset.{offset_is}
use Rattle.layout_laws.proofs.Sums.{before_more, before_mono, before_total}
use Rattle.layout_laws.proofs.Supply.{timed, timed_formed, supply_of, supply_none}

-- an answer by a test: it passed, and this is the processor
pub record Answered (k r x q : ℕ) : Type 0 where
  pub early : k < r
  pub by : x ≡ q

pub answered : (k r x q : ℕ) → cond (ltb k r) (Some x) None ≡ Some q → Answered k r x q
answered k r x q e = ⊎_elim (λ early. record { early = early; by = grind (arith, nat_tests) }) (λ late. absurd (grind (arith, nat_tests))) (cases_lt k r)

module _ (S m : ℕ) (rs : List ℕ) (fit : Fit S m rs) (t : ℕ) where
  within : (p q : ℕ) → flat_serves S rs t p ≡ Some q → q < m
  within p q e =
      let a = answered (offset S (start rs p) t) (share rs p) ((start rs p + offset S (start rs p) t) / S) q e in
      let l : start rs p + offset S (start rs p) t < m * S = omega (arith, a.early, before_more (share rs) p, before_total S m rs (suc p) fit) in
      subst (λ x. x < m) a.by (div_below (start rs p + offset S (start rs p) t) S m fit.some l)

  -- an earlier bin has another processor
  earlier : (p p' q : ℕ) → p < p' → flat_serves S rs t p ≡ Some q → flat_serves S rs t p' ≡ Some q → ⊥
  earlier p p' q l e e' =
      let a = answered (offset S (start rs p) t) (share rs p) ((start rs p + offset S (start rs p) t) / S) q e in
      let a' = answered (offset S (start rs p') t) (share rs p') ((start rs p' + offset S (start rs p') t) / S) q e' in
      omega (
        arith,
        a.early,
        a.by,
        a'.by,
        before_more (share rs) p,
        before_mono (share rs) (suc p) p' l,
        (offset_is S (start rs p) t fit.some).meets,
        (offset_is S (start rs p') t fit.some).meets,
        div-add-mod (start rs p + offset S (start rs p) t) S,
        div-add-mod (start rs p' + offset S (start rs p') t) S,
        ap (λ x. S * x) a.by,
        ap (λ x. S * x) a'.by,
      )

  apart : (p p' q : ℕ) → flat_serves S rs t p ≡ Some q → flat_serves S rs t p' ≡ Some q → p ≡ p'
  apart p p' q e e' =
      ⊎_elim (λ s. s) (⊎_elim (λ l. absurd (earlier p p' q l e e')) (λ l. absurd (earlier p' p q l e' e))) (cases_order p p')

pub flat_exclusive : (S m T : ℕ) (rs ws : List ℕ) → Fit S m rs → Exclusive (flat S m T rs ws)
flat_exclusive S m T rs ws fit = record {
  within = λ t p q e. within S m rs fit t p q (timed t (flat_serves S rs t p) q e);
  apart = λ t p p' q e e'. apart S m rs fit t p p' q (timed t (flat_serves S rs t p) q e) (timed t (flat_serves S rs t p') q e');
}

pub flat_supply : (S m δ T : ℕ) (rs ws : List ℕ) → Fit S m rs → (0 < length ws → Carry S δ T rs ws) → Supplies (flat S m T rs ws)
flat_supply S m δ T rs ws fit carry p t l long far = ⊎_elim some none (cases_lt 0 (length ws))
  where
    some : 0 < length ws → (flat S m T rs ws).load p * l ≤ supplied (flat S m T rs ws) p t l * full
    some h = supply_of (flat S m T rs ws) S δ T rs ws p (start rs p) (λ u. (start rs p + offset S (start rs p) u) / S) fit (carry h) refl (λ u. refl) t l long far

    none : length ws ≤ 0 → (flat S m T rs ws).load p * l ≤ supplied (flat S m T rs ws) p t l * full
    none h = supply_none (flat S m T rs ws) p t l (get_or_past ws p 0 (omega arith))

-- what code that computes the processor needs: the slot fits, and so does the processor
pub slot_below : (S m : ℕ) (rs : List ℕ) (p a k : ℕ) → Fit S m rs → a ≡ start rs p → k < share rs p → a + k < m * S
slot_below S m rs p a k fit e l = omega (arith, before_more (share rs) p, before_total S m rs (suc p) fit)

pub processor_below : (S m : ℕ) (rs : List ℕ) (p a k : ℕ) → Fit S m rs → a ≡ start rs p → k < share rs p → (a + k) / S < m
processor_below S m rs p a k fit e l = div_below (a + k) S m fit.some (slot_below S m rs p a k fit e l)

-- a bin that has no reserve is not served
pub none_serves : (S : ℕ) (rs : List ℕ) (t p : ℕ) → length rs ≤ p → flat_serves S rs t p ≡ None
none_serves S rs t p h = let none : share rs p ≡ 0 = get_or_past rs p 0 h in grind (arith, nat_tests)

pub flat_formed : (S m T : ℕ) (rs ws : List ℕ) → 1 ≤ m → m ≤ 16 → length rs ≡ length ws → length ws ≤ 64 → Formed (flat S m T rs ws)
flat_formed S m T rs ws some most each few =
    timed_formed m T ws (flat_serves S rs) some most few (λ t p h. none_serves S rs t p (omega arith))
