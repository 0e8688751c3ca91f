use Rattle.std.proofs.Common.{◌≡◌, ◌+◌, drop}
use Rattle.plan.specs.Method.{place}
use Rattle.plan.proofs.packing.Packing.place.Given as goal

-- the bins so far had no room
abbrev pub invariant-loop-bin : goal.invariant-loop-bin
invariant-loop-bin l = place l.charge l.self.loads.items ≡ l.bin + place l.charge (drop l.bin l.self.loads.items)
