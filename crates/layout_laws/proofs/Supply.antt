-- Answers within the range of ticks, and the supply law of a bin that is served periodically.
use Rattle.std.proofs.Common.{◌≡◌, ℕ, zero, suc, ◌+◌, ◌*◌, ◌<◌, ◌≤◌, Bool, true, false, cond, ltb, List, length, get_or, Some, None, Option, refl, ap, ◌∙◌, arith}
use Rattle.std.proofs.lemmas.List.{get_or_past}
use Rattle.std.proofs.lemmas.Bool.Decides.{nat_tests}
use Rattle.plan.specs.Method.{full}
use Rattle.layout_laws.specs.Offset.{offset}
use Rattle.layout_laws.specs.Meaning.{horizon, Meaning, in_time, one, supplied, Formed}
use Rattle.layout_laws.specs.Periodic.{ones, served, count, serving}
use Rattle.layout_laws.specs.Shares.{share, Fit, Carry}
use Rattle.layout_laws.proofs.Periodic.{supply}

-- what is answered within the range is what was to be answered
pub timed : (t : ℕ) (o : Option ℕ) (q : ℕ) → in_time t o ≡ Some q → o ≡ Some q
timed t o q e = grind (arith, nat_tests)

pub in_range : (t : ℕ) (o : Option ℕ) → t < horizon → in_time t o ≡ o
in_range t o l = grind (arith, nat_tests)

pub past_range : (t : ℕ) (o : Option ℕ) → horizon ≤ t → in_time t o ≡ None
past_range t o l = grind (arith, nat_tests)

-- the bounds of a layout of these loads that answers f within the range
pub timed_formed : (m T : ℕ) (ws : List ℕ) (f : ℕ → ℕ → Option ℕ) → 1 ≤ m → m ≤ 16 → length ws ≤ 64 → ((t p : ℕ) → length ws ≤ p → f t p ≡ None) → Formed (record { processors = m; bins = length ws; shortest = T; load = λ p. get_or ws p 0; serves = λ t p. in_time t (f t p) })
timed_formed m T ws f some most few none = record {
  some = some;
  most = most;
  few = few;
  loads = λ p h. get_or_past ws p 0 h;
  bins = λ t p h. let none : f t p ≡ None = none t p h in grind (arith, nat_tests);
  ticks = λ t p h. past_range t (f t p) h;
}

-- a bin without load needs nothing
pub supply_none : (m : Meaning) (p t l : ℕ) → m.load p ≡ 0 → m.load p * l ≤ supplied m p t l * full
supply_none m p t l e = omega (arith, ap (λ w. w * l) e)

-- the served ticks of a window, where a test tells which are served
supplied_count : (m : Meaning) (p : ℕ) (g : ℕ → Bool) (h : ℕ → ℕ) → ((u : ℕ) → u < horizon → m.serves u p ≡ cond (g u) (Some (h u)) None) → (t l : ℕ) → t + l ≤ horizon → supplied m p t l ≡ count g t l
unfolding supplied count
supplied_count m p g h e t zero far = refl
supplied_count m p g h e t (suc l) far =
    let a : one (m.serves t p) ≡ ones (g t) = ap one (e t (omega arith)) ∙ both (g t) (h t) in
    omega (arith, a, supplied_count m p g h e (suc t) l (omega arith))
  where
    both : (b : Bool) (x : ℕ) → one (cond b (Some x) None) ≡ ones b
    both true x = refl
    both false x = refl

-- the supply law of one bin, of any layout that serves it periodically
pub supply_of : (m : Meaning) (S δ T : ℕ) (rs ws : List ℕ) (p A : ℕ) (h : ℕ → ℕ) {n : ℕ} → Fit S n rs → Carry S δ T rs ws → m.load p ≡ get_or ws p 0 → ((u : ℕ) → m.serves u p ≡ in_time u (cond (ltb (offset S A u) (share rs p)) (Some (h u)) None)) → (t l : ℕ) → T ≤ l → t + l ≤ horizon → m.load p * l ≤ supplied m p t l * full
unfolding served
supply_of m S δ T rs ws p A h fit carry load e t l long far =
    let g : supplied m p t l ≡ serving S A (share rs p) t l =
    supplied_count m p (served S A (share rs p)) h (λ u far. e u ∙ in_range u (cond (ltb (offset S A u) (share rs p)) (Some (h u)) None) far) t l far in
    let s : get_or ws p 0 * l ≤ serving S A (share rs p) t l * full =
    supply full S (share rs p) (get_or ws p 0) δ T A t l fit.some (fit.each p) (carry.light p) carry.slots carry.shortest (carry.enough p) long in
    omega (arith, s, ap (λ w. w * l) load, ap (λ x. x * full) g)
