-- The shortest period of a table is one of its periods, and at most each.
use Rattle.std.proofs.Common.{◌≡◌, ℕ, zero, suc, ◌<◌, ◌≤◌, ◌||◌, eqb, ltb, ◌≢◌, ◌⊎◌, List, [], ◌∷◌, length, Some, None, fold, sym, refl, ap, ◌∙◌, inl, inr, ⊎_elim, arith}
use Rattle.std.specs.List.{slice_get}
use Rattle.std.proofs.lemmas.Bool.{cond_both, or_cases, or_parts, eqb-true, eqb-false, ltb-true, ltb-false}
use Rattle.plan.specs.Rows.{Task}
use Rattle.plan.specs.Method.{shorter, shortest_of}
use Rattle.plan.specs.Laws.{Shortest}

-- the shorter of a period and what came before it
record Shorter (a p x : ℕ) : Type 0 where
  pub some : 1 ≤ x
  pub new : x ≤ p
  pub old : 1 ≤ a → x ≤ a
  pub which : (x ≡ a) ⊎ (x ≡ p)

shorter_is : (a p : ℕ) → 1 ≤ p → Shorter a p (shorter a p)
shorter_is a p some =
    cond_both (eqb a 0 || ltb p a) p a (Shorter a p)
    (λ e. record { some = some; new = omega arith; old = λ l. ⊎_elim (λ z. absurd (omega (arith, eqb-true a 0 z))) (λ s. omega (arith, ltb-true p a s)) (or_cases (eqb a 0) (ltb p a) e); which = inr refl })
    (λ e. let parts = or_parts (eqb a 0) (ltb p a) e in
    let nonzero : a ≢ 0 = eqb-false a 0 parts.0 in
    record { some = omega arith; new = ltb-false p a parts.1; old = λ l. omega arith; which = inl refl })

-- every row has a period
abbrev pub Timed : List Task → Type 0
Timed ts = (i : ℕ) (t : Task) → slice_get ts i ≡ Some t → 1 ≤ t.period

-- the shortest of `a` and the periods of ts
record Among (a : ℕ) (ts : List Task) (x : ℕ) : Type 0 where
  pub old : x ≤ a
  pub below : (i : ℕ) (t : Task) → slice_get ts i ≡ Some t → x ≤ t.period
  pub one : (x ≡ a) ⊎ ((i : ℕ) × (t : Task) × (slice_get ts i ≡ Some t) × (t.period ≡ x))

timed_rest : (t : Task) (ts : List Task) → Timed (t ∷ ts) → Timed ts
timed_rest t ts h i u e = h (suc i) u e

-- what holds of the first row's period and of every later row's holds of each
cons_below : (x : ℕ) (t : Task) (ts : List Task) → x ≤ t.period → ((i : ℕ) (u : Task) → slice_get ts i ≡ Some u → x ≤ u.period) → (i : ℕ) (u : Task) → slice_get (t ∷ ts) i ≡ Some u → x ≤ u.period
cons_below x t ts here there zero u e = let same : t ≡ u = cc in omega (arith, ap (λ v. v.period) same)
cons_below x t ts here there (suc i) u e = there i u e

among : (a : ℕ) (ts : List Task) → 1 ≤ a → Timed ts → Among a ts (fold (λ least t. shorter least t.period) a ts)
among a [] some timed = record { old = omega arith; below = λ i t e. absurd (never e); one = inl refl }
  where
    never : {t : Task} → None ≡ Some t → ⊥
    never e = let z : ◌≡◌ {A = ℕ} 0 1 = cc in omega arith
among a (t ∷ ts) some timed =
    let s = shorter_is a t.period (timed 0 t refl) in
    let ih = among (shorter a t.period) ts s.some (timed_rest t ts timed) in
    record {
      old = omega (arith, ih.old, s.old some);
      below = cons_below (fold (λ least u. shorter least u.period) (shorter a t.period) ts) t ts (omega (arith, ih.old, s.new)) ih.below;
      one = ⊎_elim (λ e. ⊎_elim (λ old. inl (e ∙ old)) (λ new. inr (0, t, refl, sym (e ∙ new))) s.which) (λ f. inr (suc f.0, f.1, f.2, f.3)) ih.one;
    }

pub shortest_is : (ts : List Task) → Timed ts → 0 < length ts → Shortest ts (shortest_of ts)
shortest_is [] timed some = absurd (omega arith)
shortest_is (t ∷ ts) timed some =
    let first : shorter 0 t.period ≡ t.period = refl in
    let r = among t.period ts (timed 0 t refl) (timed_rest t ts timed) in
    record {
      below = cons_below (fold (λ least u. shorter least u.period) t.period ts) t ts r.old r.below;
      one = ⊎_elim (λ e. (0, t, refl, sym e)) (λ f. (suc f.0, f.1, f.2, f.3)) r.one;
    }
