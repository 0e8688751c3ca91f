use Rattle.std.proofs.Common.{ℕ, ◌+◌, ◌*◌, ◌≤◌, ◌∙◌, arith}
use Rattle.std.proofs.lemmas.Nat.{mul-le}
use Rattle.plan.specs.Method.{full}
use Rattle.plan.proofs.Rounding.{reserve_rounded, up_is}
use Rattle.plan.proofs.plan.closing.Cut.reserve.Goals as goal

-- the product is below 2 ^ 64 for every byte delta
product : (S δ W : ℕ) → S ≤ 1000000 → δ ≤ 255 → W ≤ full → S * (δ + 1) * W ≤ 256000000 * 1000000
product S δ W s d w = mul-le (S * (δ + 1)) W 256000000 1000000 (omega (arith, mul-le S (δ + 1) 1000000 256 s (omega arith))) w

pub overflow_mul-wanted-2 : goal.overflow_mul-wanted-2
overflow_mul-wanted-2 c = let h = product c.args.self.slot c.args.self.delta c.args.load c.args.self.short (omega arith) c.requires in record { fits = omega arith }

pub overflow_cast-result : goal.overflow_cast-result
overflow_cast-result c =
    let h = reserve_rounded c.args.self.slot c.args.self.delta c.args.load c.args.self.some c.requires in
    record { fits = omega (arith, h.inside, c.div_ceil.ensures, up_is (c.args.self.slot * (c.args.self.delta + 1) * c.args.load) (c.args.load + c.args.self.delta * full) (omega (arith, c.args.self.some))) }

pub returns : goal.returns
returns c = c.div_ceil.ensures ∙ up_is (c.args.self.slot * (c.args.self.delta + 1) * c.args.load) (c.args.load + c.args.self.delta * full) (omega (arith, c.args.self.some))
