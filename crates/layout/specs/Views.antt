-- What the layouts' memory stands for.
use Rattle.layout_laws.specs.Meaning.{Meaning}
use Rattle.layout_laws.specs.Flat.{flat}
use Rattle.layout_laws.specs.Semi.{semi}
use Rattle.layout_laws.specs.Dedicated.{dedicated}
use Rattle.layout.specs.declared.flat.Flat.{Flat}
use Rattle.layout.specs.declared.semi.Semi.{Semi}
use Rattle.layout.specs.declared.dedicated.Dedicated.{Dedicated}
use Rattle.layout.specs.Shared.{weights, reserved}

abbrev pub flat_view : Flat → Meaning
flat_view x = flat x.shares.slot x.shares.processors x.shares.shortest (reserved x.shares) (weights x.shares)

abbrev pub semi_view : Semi → Meaning
semi_view x = semi x.shares.slot x.shares.processors x.shares.shortest (reserved x.shares) (weights x.shares)

abbrev pub dedicated_view : Dedicated → Meaning
dedicated_view x = dedicated x.processors x.shortest x.loads.items
