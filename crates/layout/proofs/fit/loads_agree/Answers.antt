use Rattle.std.proofs.Common.{◌≡◌, ℕ, ◌<◌, Bool, true, false, List, length, get_or, Some, rules, sym, ap, ◌∙◌, subst, tests, arith}
use Rattle.std.specs.Bool.{MatchBool}
use Rattle.std.specs.List.{slice_get, range_with_len, AllWithin, HoldsAt}
use Rattle.std.proofs.lemmas.Iterator.{cases_from_all, YieldsList-from_range}
use Rattle.std.proofs.lemmas.List.FromFn.{length-range_with_len, get_or-range_with_len}
use Rattle.std.proofs.lemmas.Option.{slice_get-get_or, get_or_from_slice_get}
use Rattle.plan.specs.Plans.{planned}
use Rattle.layout.proofs.fit.loads_agree.Goals as goal

-- the loads ws of n bins, and those that a layout answers
agreed : (ws : List ℕ) (load : ℕ → ℕ) (n : ℕ) (r : Bool) → n ≡ length ws → MatchBool r (AllWithin (λ q. slice_get ws q ≡ Some (load q)) (range_with_len 0 n) 0 (length (range_with_len 0 n))) ((k : ℕ) × (k < length (range_with_len 0 n)) × HoldsAt (λ q. slice_get ws q ≡ Some (load q) → ⊥) (range_with_len 0 n) k) → MatchBool r ((q : ℕ) → q < length ws → get_or ws q 0 ≡ load q) (((q : ℕ) → get_or ws q 0 ≡ load q) → ⊥)
agreed ws load n true e h = λ q l.
    let place : get_or (range_with_len 0 n) q 0 ≡ q = get_or-range_with_len 0 n q 0 (omega arith) ∙ omega arith in
    get_or_from_slice_get ws q (load q) 0 (subst (λ k. slice_get ws k ≡ Some (load k)) place (h q 0 (omega arith) (omega (arith, length-range_with_len 0 n))))
agreed ws load n false e h = λ agree.
    let l : h.0 < n = omega (arith, length-range_with_len 0 n, h.1) in
    let place : get_or (range_with_len 0 n) h.0 0 ≡ h.0 = get_or-range_with_len 0 n h.0 0 l ∙ omega arith in
    h.2 0 (subst (λ k. slice_get ws k ≡ Some (load k)) (sym place) (slice_get-get_or ws h.0 0 (omega arith) ∙ ap Some (agree h.0)))

pub returns : goal.returns
returns g c =
    let p = planned c.args.plan.now in
    let m = g.L.Layout.meaning c.args.layout.now in
    agreed p.loads m.load c.bins.result c.all.result c.bins.ensures
    (cases_from_all _ _ _ (λ q. slice_get p.loads q ≡ Some (m.load q)) (λ q. slice_get p.loads q ≡ Some (m.load q) → ⊥) c.all.ensures.ran (YieldsList-from_range 0 c.bins.result c.bins.result (cc) (omega arith)) (λ x q k. search (rules, tests)) (λ x q k. search (rules, tests)))
