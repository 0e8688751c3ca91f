use Rattle.std.proofs.Common.{◌≡◌, map, take}
use Rattle.plan.specs.Bins.{load_of, reserve_in}
use Rattle.plan.specs.Method.{reserve_of}
use Rattle.plan.proofs.plan.closing.bins.Given as goal

abbrev pub invariant-loop-load : goal.invariant-loop-load
invariant-loop-load l =
    (map load_of l.bins.items ≡ take l.load-index l.loads.items)
    × (map reserve_in l.bins.items ≡ map (reserve_of l.cut.slot l.cut.delta) (take l.load-index l.loads.items))
