use Rattle.std.proofs.Common.{◌≡◌, ℕ, ◌*◌, ◌<◌, ◌≤◌, length, get_or}
use Rattle.layout_laws.specs.Semi.{free}
use Rattle.layout.specs.Shared.{reserved}
use Rattle.layout.proofs.shares.Shares.frees.Given as goal

-- the numbers up to q are there; `next` is that of q
abbrev pub invariant-loop-q : goal.invariant-loop-q
invariant-loop-q l =
    (length l.free-items ≡ 17)
    × ((p : ℕ) → p < l.q → get_or l.free-items p 0 ≡ free l.self.slot (reserved l.self) p)
    × (l.next ≡ free l.self.slot (reserved l.self) l.q)
    × (l.next ≤ l.q * 1000000)
