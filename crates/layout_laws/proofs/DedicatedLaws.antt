-- The two laws of the dedicated layout.
use Rattle.std.proofs.Common.{◌≡◌, ℕ, zero, suc, ◌+◌, ◌*◌, ◌<◌, ◌≤◌, cond, ltb, List, length, get_or, Some, None, sym, refl, ap, ◌∙◌, ⊎_elim, mul-le-mul_right, arith}
use Rattle.std.proofs.lemmas.List.{get_or_past}
use Rattle.std.proofs.lemmas.Bool.{cases_lt}
use Rattle.std.proofs.lemmas.Bool.Decides.{nat_tests}
use Rattle.plan.specs.Method.{full}
use Rattle.layout_laws.specs.Meaning.{horizon, one, supplied, Formed, Exclusive, Supplies}
use Rattle.layout_laws.specs.Dedicated.{dedicated}
use Rattle.layout_laws.proofs.FlatLaws.{Answered, answered}
use Rattle.layout_laws.proofs.Supply.{timed, timed_formed, supply_none}

module _ (m T : ℕ) (ws : List ℕ) where
  -- the processor of a bin is its own number
  own : (t p q : ℕ) → (dedicated m T ws).serves t p ≡ Some q → Answered p (length ws) p q
  own t p q e = answered p (length ws) p q (timed t (cond (ltb p (length ws)) (Some p) None) q e)

  pub dedicated_exclusive : length ws ≤ m → Exclusive (dedicated m T ws)
  dedicated_exclusive fit = record {
    within = λ t p q e. let a = own t p q e in omega (arith, a.early, a.by);
    apart = λ t p p' q e e'. (own t p q e).by ∙ sym (own t p' q e').by;
  }

  -- every tick of a window serves a bin that is there
  all : (p : ℕ) → p < length ws → (t l : ℕ) → t + l ≤ horizon → supplied (dedicated m T ws) p t l ≡ l
  unfolding supplied
  all p h t zero far = refl
  all p h t (suc l) far =
      let e : (dedicated m T ws).serves t p ≡ Some p = grind (arith, nat_tests) in
      omega (arith, ap one e, all p h (suc t) l (omega arith))

  pub dedicated_supply : ((p : ℕ) → get_or ws p 0 ≤ full) → Supplies (dedicated m T ws)
  dedicated_supply light p t l long far = ⊎_elim here past (cases_lt p (length ws))
    where
      here : p < length ws → get_or ws p 0 * l ≤ supplied (dedicated m T ws) p t l * full
      here h = omega (arith, ap (λ n. n * full) (all p h t l far), mul-le-mul_right l (light p))

      past : length ws ≤ p → get_or ws p 0 * l ≤ supplied (dedicated m T ws) p t l * full
      past h = supply_none (dedicated m T ws) p t l (get_or_past ws p 0 h)

  pub dedicated_formed : 1 ≤ m → m ≤ 16 → length ws ≤ 64 → Formed (dedicated m T ws)
  dedicated_formed some most few =
      timed_formed m T ws (λ t p. cond (ltb p (length ws)) (Some p) None) some most few (λ t p h. grind (arith, nat_tests))
