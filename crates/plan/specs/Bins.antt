-- What a bin has.
use Rattle.std.specs.Prelude.{ℕ}
use Rattle.plan.specs.declared.bin.Bin.{Bin}

abbrev pub load_of : Bin → ℕ
load_of b = b.load

abbrev pub reserve_in : Bin → ℕ
reserve_in b = b.reserve
