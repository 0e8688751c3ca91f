-- What a packing holds.
use Rattle.std.specs.Prelude.{◌≡◌, ℕ, List, []}
use Rattle.plan.specs.declared.packing.Packing.{Packing}
use Rattle.plan.specs.Method.{loads_from, bins_from}

-- the packing of these charges
pub record Packs (cs : List ℕ) (p : Packing) : Type 0 where
  pub placed : p.bin_of.items ≡ bins_from [] cs
  pub loaded : p.loads.items ≡ loads_from [] cs
