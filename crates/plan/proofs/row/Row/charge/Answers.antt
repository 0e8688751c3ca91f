use Rattle.std.proofs.Common.{◌*◌, ◌∙◌, arith}
use Rattle.plan.specs.Method.{full}
use Rattle.plan.proofs.Rounding.{up_is}
use Rattle.plan.proofs.row.Row.charge.Goals as goal

pub returns-clause-is : goal.returns-clause-is
returns-clause-is c = let s = c.args.self.now in c.div_ceil.ensures ∙ up_is (s.budget * full) s.period (omega (arith, s.some, s.room))
