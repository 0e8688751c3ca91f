-- The worked cases, by computing.
use Rattle.std.proofs.Common.{◌≡◌, ℕ, get_or, refl, ap, arith}
use Rattle.plan.specs.Method.{up}
use Rattle.plan.specs.Examples.{Worked}

pub worked : Worked
unfolding up
worked = record {
  each = refl;
  not_one_bin = λ e. let z : ◌≡◌ {A = ℕ} 666668 999999 = ap (λ ws. get_or ws 0 0) e in omega arith;
  not_two_ticks = λ e. let z : ◌≡◌ {A = ℕ} 3 2 = ap (λ ws. get_or ws 0 0) e in omega arith;
}
