-- What a share has.
use Rattle.std.specs.Prelude.{ℕ}
use Rattle.layout.specs.declared.share.Share.{Share}

abbrev pub load_of : Share → ℕ
load_of s = s.bin.load

abbrev pub reserve_of : Share → ℕ
reserve_of s = s.bin.reserve

abbrev pub start_of : Share → ℕ
start_of s = s.start
