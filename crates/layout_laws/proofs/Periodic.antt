-- How much of a window a periodic service serves, and the supply law.
use Rattle.std.proofs.Common.{◌≡◌, ℕ, zero, suc, ◌+◌, ◌-◌, ◌*◌, ◌/◌, ◌%◌, ◌<◌, ◌≤◌, min, ltb, ◌⊎◌, sym, refl, ap, ◌∙◌, subst, inl, inr, ⊎_elim, mul-le-mul_right, mod-lt, mul-le-mul_left, arith}
use native.Mathlib.Nat.{div-add-mod, add-mod-mod, le_of_mul-le-mul_left}
use Rattle.std.proofs.lemmas.Nat.{div-mul-add, mod-mul-add, le-div}
use Rattle.std.proofs.lemmas.Bool.{cases_lt}
use Rattle.std.proofs.lemmas.Bool.Decides.{nat_tests}
use Rattle.layout_laws.specs.Offset.{offset}
use Rattle.layout_laws.specs.Periodic.{ones, served, count, serving}
use Rattle.layout_laws.proofs.Offset.{offset_is, offset_only, shift_rest}

-- what a test counts for
pub ones_ltb : (a b : ℕ) → ((a < b) × (ones (ltb a b) ≡ 1)) ⊎ ((b ≤ a) × (ones (ltb a b) ≡ 0))
ones_ltb a b = ⊎_elim (λ h. inl (h, grind (arith, nat_tests))) (λ h. inr (h, grind (arith, nat_tests))) (cases_lt a b)

-- the served ticks among the first x of a cycle that begins with R served ones
quota : ℕ → ℕ → ℕ → ℕ
quota S R x = x / S * R + min (x % S) R

quota_at : (S R q r : ℕ) → r < S → quota S R (q * S + r) ≡ q * R + min r R
unfolding quota
quota_at S R q r h = rw (div-mul-add q S r h, mod-mul-add q S r h) refl

quota_step : (S R q r : ℕ) → r < S → R ≤ S → quota S R (suc (q * S + r)) ≡ ones (ltb r R) + quota S R (q * S + r)
quota_step S R q r h k = ⊎_elim inside over (cases_lt (suc r) S)
  where
    inside : suc r < S → quota S R (suc (q * S + r)) ≡ ones (ltb r R) + quota S R (q * S + r)
    inside l =
        let e : suc (q * S + r) ≡ q * S + suc r = omega arith in
        omega (arith, ap (quota S R) e, quota_at S R q (suc r) l, quota_at S R q r h, ones_ltb r R)

    over : S ≤ suc r → quota S R (suc (q * S + r)) ≡ ones (ltb r R) + quota S R (q * S + r)
    over l =
        let e : suc (q * S + r) ≡ suc q * S + 0 = omega arith in
        omega (arith, ap (quota S R) e, quota_at S R (suc q) 0 (omega arith), quota_at S R q r h, ones_ltb r R)

quota_next : (S R x : ℕ) → 0 < S → R ≤ S → quota S R (suc x) ≡ ones (ltb (x % S) R) + quota S R x
quota_next S R x pos k =
    let e : x / S * S + x % S ≡ x = omega (arith, div-add-mod x S) in
    subst (λ y. quota S R (suc y) ≡ ones (ltb (x % S) R) + quota S R y) e (quota_step S R (x / S) (x % S) (mod-lt x pos) k)

-- x is any number that meets the tick t
serving_quota : (S A R x t L : ℕ) → 0 < S → R ≤ S → (A + x) % S ≡ t % S → serving S A R t L + quota S R x ≡ quota S R (x + L)
unfolding count served
serving_quota S A R x t zero pos k e = let z : x + 0 ≡ x = omega arith in omega (arith, ap (quota S R) z)
serving_quota S A R x t (suc L) pos k e =
    let o : x % S ≡ offset S A t = offset_only S A t (x % S) (record { below = mod-lt x pos; meets = add-mod-mod A x S ∙ e }) in
    let c : ones (ltb (x % S) R) ≡ ones (ltb (offset S A t) R) = ap (λ y. ones (ltb y R)) o in
    let a : A + suc x ≡ 1 + (A + x) = omega arith in
    let b : 1 + t ≡ suc t = omega arith in
    let m : (A + suc x) % S ≡ suc t % S = ap (λ y. y % S) a ∙ shift_rest S (A + x) t 1 e ∙ ap (λ y. y % S) b in
    let z : x + suc L ≡ suc x + L = omega arith in
    omega (arith, ap (quota S R) z, serving_quota S A R (suc x) (suc t) L pos k m, quota_next S R x pos k)

serving_offset : (S A R t L : ℕ) → 0 < S → R ≤ S → serving S A R t L + quota S R (offset S A t) ≡ quota S R (offset S A t + L)
serving_offset S A R t L pos k = serving_quota S A R (offset S A t) t L pos k (offset_is S A t pos).meets

quota_first : (S R k : ℕ) → k < S → quota S R k ≡ min k R
quota_first S R k h =
    let e : k ≡ 0 * S + k = omega arith in
    omega (arith, ap (quota S R) e, quota_at S R 0 k h)

-- every S successive ticks have exactly R served
pub cycle : (S A R t : ℕ) → 0 < S → R ≤ S → serving S A R t S ≡ R
cycle S A R t pos k =
    let b = (offset_is S A t pos).below in
    let e : offset S A t + S ≡ 1 * S + offset S A t = omega arith in
    omega (arith, serving_offset S A R t S pos k, ap (quota S R) e, quota_at S R 1 (offset S A t) b, quota_first S R (offset S A t) b)

quota_window : (S R k q r : ℕ) → k < S → R ≤ S → r < S → q * R + (r - (S - R)) + quota S R k ≤ quota S R (k + (q * S + r))
quota_window S R k q r hk hr h = ⊎_elim inside over (cases_lt (k + r) S)
  where
    inside : k + r < S → q * R + (r - (S - R)) + quota S R k ≤ quota S R (k + (q * S + r))
    inside l =
        let e : k + (q * S + r) ≡ q * S + (k + r) = omega arith in
        omega (arith, ap (quota S R) e, quota_at S R q (k + r) l, quota_first S R k hk)

    over : S ≤ k + r → q * R + (r - (S - R)) + quota S R k ≤ quota S R (k + (q * S + r))
    over l =
        let e : k + (q * S + r) ≡ suc q * S + (k + r - S) = omega arith in
        omega (arith, ap (quota S R) e, quota_at S R (suc q) (k + r - S) (omega arith), quota_first S R k hk)

-- the least that a window can have
pub window : (S A R t q r : ℕ) → R ≤ S → r < S → q * R + (r - (S - R)) ≤ serving S A R t (q * S + r)
window S A R t q r hr h =
    let pos : 0 < S = omega arith in
    omega (arith, serving_offset S A R t (q * S + r) pos hr, quota_window S R (offset S A t) q r (offset_is S A t pos).below hr h)

-- the two products that the supply law rests on; S is R + g, and the window has δ + e cycles
module _ (Q R g W δ e : ℕ) (light : W ≤ Q) (pos : 0 < δ) (enough : (R + g) * (δ + 1) * W ≤ R * (W + δ * Q)) where
  rate : W * (R + g) ≤ Q * R
  rate = le_of_mul-le-mul_left {m = W * (R + g)} {n = Q * R} {k = δ} (omega arith) pos

  -- a rest within the gap
  short : (r N : ℕ) → r ≤ g → (δ + e) * R ≤ N → W * ((δ + e) * (R + g) + r) ≤ N * Q
  short r N l n = omega (arith, mul-le-mul_left e rate, mul-le-mul_left W l, mul-le-mul_right Q n)

  -- a rest past the gap
  long : (d N : ℕ) → (δ + e) * R + d ≤ N → W * ((δ + e) * (R + g) + (g + d)) ≤ N * Q
  long d N n = omega (arith, mul-le-mul_left e rate, mul-le-mul_right d light, mul-le-mul_right Q n)

  either : (r N : ℕ) → (δ + e) * R + (r - g) ≤ N → W * ((δ + e) * (R + g) + r) ≤ N * Q
  either r N n = ⊎_elim past within (cases_lt g r)
    where
      past : g < r → W * ((δ + e) * (R + g) + r) ≤ N * Q
      past l = let w : g + (r - g) ≡ r = omega arith in subst (λ y. W * ((δ + e) * (R + g) + y) ≤ N * Q) w (long (r - g) N n)

      within : r ≤ g → W * ((δ + e) * (R + g) + r) ≤ N * Q
      within l = short r N l (omega arith)

pub supply : (Q S R W δ T A t L : ℕ) → 0 < S → R ≤ S → W ≤ Q → 0 < δ → δ * S ≤ T → S * (δ + 1) * W ≤ R * (W + δ * Q) → T ≤ L → W * L ≤ serving S A R t L * Q
supply Q S R W δ T A t L pos fits light some long_enough enough l =
    let q : ℕ = L / S in
    let r : ℕ = L % S in
    let whole : q * S + r ≡ L = omega (arith, div-add-mod L S) in
    let many : δ ≤ q = le-div δ L S pos (omega arith) in
    let f : δ + (q - δ) ≡ q = omega arith in
    let s : R + (S - R) ≡ S = omega arith in
    let en : (R + (S - R)) * (δ + 1) * W ≤ R * (W + δ * Q) = subst (λ y. y * (δ + 1) * W ≤ R * (W + δ * Q)) (sym s) enough in
    let w : q * R + (r - (S - R)) ≤ serving S A R t (q * S + r) = window S A R t q r fits (mod-lt L pos) in
    let n : (δ + (q - δ)) * R + (r - (S - R)) ≤ serving S A R t (q * S + r) = subst (λ y. y * R + (r - (S - R)) ≤ serving S A R t (q * S + r)) (sym f) w in
    let c : W * ((δ + (q - δ)) * (R + (S - R)) + r) ≤ serving S A R t (q * S + r) * Q = either Q R (S - R) W δ (q - δ) light some en r (serving S A R t (q * S + r)) n in
    let c2 : W * (q * (R + (S - R)) + r) ≤ serving S A R t (q * S + r) * Q = subst (λ y. W * (y * (R + (S - R)) + r) ≤ serving S A R t (q * S + r) * Q) f c in
    let c3 : W * (q * S + r) ≤ serving S A R t (q * S + r) * Q = subst (λ y. W * (q * y + r) ≤ serving S A R t (q * S + r) * Q) s c2 in
    subst (λ y. W * y ≤ serving S A R t y * Q) whole c3
