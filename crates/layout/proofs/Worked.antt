-- The worked cases of layouts, by computing.
use Rattle.std.proofs.Common.{refl, arith}
use Rattle.plan.specs.Method.{up}
use Rattle.layout_laws.specs.Offset.{offset}
use Rattle.layout_laws.specs.Shares.{before}
use Rattle.layout_laws.specs.Semi.{highest}
use Rattle.layout_laws.proofs.Offset.{offset_law}
use Rattle.layout.specs.Examples.{WorkedLayouts}

pub worked_layouts : WorkedLayouts
unfolding up offset before highest
worked_layouts = record {
  two_processors = record { good = refl; room = omega arith };
  not_one = λ r. omega (arith, r.room);
  three_processors = record { good = refl; room = omega arith };
  in_turn = refl;
  offset = offset_law;
}
