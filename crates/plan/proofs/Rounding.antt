-- Quotients rounded up and down: charges, reserves, slots.
use Rattle.std.proofs.Common.{◌≡◌, ℕ, suc, ◌+◌, ◌-◌, ◌*◌, ◌/◌, ◌<◌, ◌≤◌, ⊎_elim, mod-lt, mul-le-mul_left, arith}
use native.Mathlib.Nat.{div-add-mod}
use Rattle.std.specs.Int.{div_ceil}
use Rattle.std.proofs.lemmas.Grind.{div_ceil_times}
use Rattle.std.proofs.lemmas.Bool.{cases_lt}
use Rattle.std.proofs.lemmas.Nat.{mul-le, div_below, le-div, div-add-mod'}
use Rattle.plan.specs.Rows.{Task}
use Rattle.plan.specs.Method.{full, up, charge, reserve_of}
use Rattle.plan.specs.Laws.{LeastAbove, Slot, Reserve}

pub up_least : (n d x : ℕ) → 0 < d → n ≤ x * d → up n d ≤ x
unfolding up
up_least n d x pos h = let l : (n + d - 1) / d < suc x = div_below (n + d - 1) d (suc x) pos (omega arith) in omega arith

pub least_above : (n d : ℕ) → 0 < d → LeastAbove n d (up n d)
unfolding up
least_above n d pos = record {
  enough = omega (arith, div-add-mod (n + d - 1) d, mod-lt (n + d - 1) pos);
  least = λ y h. up_least n d y pos h;
}

-- the library's quotient is this one: enough, and a whole divisor below is not
pub up_is : (n d : ℕ) → 0 < d → div_ceil n d ≡ up n d
up_is n d pos =
    let c = div_ceil n d in
    let t = div_ceil_times n d pos in
    let u = least_above n d pos in
    let below : c ≤ up n d = ⊎_elim (λ l. absurd (omega (arith, t.1, u.enough, mul-le (up n d + 1) d c d (omega (arith, l)) (omega arith)))) (λ l. l) (cases_lt (up n d) c) in
    omega (arith, below, u.least c t.0)

-- a task needs no more than a whole processor
pub charge_light : (t : Task) → 1 ≤ t.budget → t.budget ≤ t.period → charge t ≤ full
charge_light t some room = up_least (t.budget * full) t.period full (omega arith) (omega arith)

pub reserve_rounded : (S δ W : ℕ) → 1 ≤ δ → W ≤ full → Reserve S δ W (reserve_of S δ W)
reserve_rounded S δ W some light = record {
  rounded = least_above (S * (δ + 1) * W) (W + δ * full) (omega arith);
  inside = up_least (S * (δ + 1) * W) (W + δ * full) S (omega arith) (omega (arith, mul-le-mul_left (S * δ) light));
}

pub slot_rounded : (T δ : ℕ) → 1 ≤ δ → δ ≤ T → Slot T δ (T / δ)
slot_rounded T δ some long = record {
  fits = omega (arith, div-add-mod' T δ);
  longest = λ s h. le-div s T δ some (omega arith);
  some = le-div 1 T δ some (omega arith);
}
