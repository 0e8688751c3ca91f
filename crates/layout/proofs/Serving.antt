-- The answers of the layouts by slots, from the places that shares give.
use Rattle.std.proofs.Common.{◌≡◌, ℕ, zero, suc, ◌+◌, ◌-◌, ◌<◌, ◌≤◌, List, length, Some, ◌∙◌, ⊎_elim, arith}
use Rattle.std.proofs.lemmas.Bool.Decides.{nat_tests}
use Rattle.std.proofs.lemmas.Bool.{cases_lt}
use Rattle.std.proofs.lemmas.List.{get_or_past}
use Rattle.layout_laws.specs.Offset.{offset}
use Rattle.layout_laws.specs.Meaning.{in_time}
use Rattle.layout_laws.specs.Shares.{share}
use Rattle.layout_laws.specs.Semi.{highest}
use Rattle.layout_laws.proofs.FlatLaws.{Answered, answered}
use Rattle.layout_laws.proofs.SemiLaws.{highest_here, highest_lower}
use Rattle.layout.specs.Shared.{position}

-- a place that is answered: the bin is there, and its reserve lasts
pub answered_at : (S a t p x : ℕ) (rs : List ℕ) → in_time t (position S a (share rs p) t) ≡ Some x → Answered (offset S a t) (share rs p) (a + offset S a t) x × (p < length rs)
answered_at S a t p x rs e =
    let r = answered (offset S a t) (share rs p) (a + offset S a t) x (grind (arith, nat_tests)) in
    (r, ⊎_elim (λ l. l) (λ l. absurd (omega (arith, r.early, get_or_past rs p 0 l))) (cases_lt p (length rs)))

-- the highest place at which f is at most x, where f passes x from place i on
pub highest_before : (f : ℕ → ℕ) (x n i : ℕ) → i ≤ n → ((k : ℕ) → k < i → f k ≤ x) → ((k : ℕ) → i ≤ k → k < n → x < f k) → highest f x n ≡ i - 1
unfolding highest
highest_before f x zero i l below above = omega arith
highest_before f x (suc n) i l below above =
    ⊎_elim (λ h. highest_here f x n (below n h) ∙ omega arith)
    (λ h. highest_lower f x n (above n (omega arith) (omega arith)) ∙ highest_before f x n i (omega arith) below (λ k m h. above k m (omega arith))) (cases_lt n i)
