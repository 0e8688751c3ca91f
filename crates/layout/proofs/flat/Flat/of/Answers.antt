use Rattle.std.proofs.Common.{◌∙◌, arith}
use Rattle.std.proofs.lemmas.Bool.Decides.{nat_tests}
use Rattle.layout.proofs.flat.Flat.of.Goals as goal

pub invariant_of-result : goal.invariant_of-result
invariant_of-result c = record { started = λ p l. c.in_ok-shares.ensures.1.start p l ∙ grind (arith, nat_tests) }
