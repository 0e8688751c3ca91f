-- What shares hold.
use Rattle.std.specs.Prelude.{◌≡◌, ℕ, ◌+◌, ◌<◌, List, [], map, Option, nat_lt, slice_index}
use Rattle.std.specs.Bool.{then_some}
use Rattle.arrayvec.specs.ArrayVec.{array_vec_len}
use Rattle.plan.specs.Closing.{Planned}
use Rattle.layout_laws.specs.Offset.{offset}
use Rattle.layout_laws.specs.Semi.{semi_start}
use Rattle.layout.specs.declared.shares.Shares.{Shares}
use Rattle.layout.specs.Parts.{load_of, reserve_of, start_of}

-- the load of each bin, its reserve and where it starts
abbrev pub weights : Shares → List ℕ
weights s = map load_of s.bins.items

abbrev pub reserved : Shares → List ℕ
reserved s = map reserve_of s.bins.items

abbrev pub starts : Shares → List ℕ
starts s = map start_of s.bins.items

-- the shares of a plan, the first `own` bins having a processor each
pub record Shared (p : Planned) (own : ℕ) (s : Shares) : Type 0 where
  pub processors : s.processors ≡ p.processors
  pub shortest : s.shortest ≡ p.shortest
  pub slot : s.slot ≡ p.slot
  pub loads : weights s ≡ p.loads
  pub reserves : reserved s ≡ p.reserves
  pub start : (q : ℕ) → q < array_vec_len s.bins → slice_index (starts s) q ≡ semi_start s.slot own (reserved s) q

-- the shares of nobody
abbrev pub SharedNone : Shares → Type 0
SharedNone s = (s.processors ≡ 1) × (s.shortest ≡ 0) × (s.slot ≡ 1) × (s.bins.items ≡ [])

-- slots of S: where a bin that starts at `start`, and gets `reserve` ticks, is in tick t, if it is served
abbrev pub position : ℕ → ℕ → ℕ → ℕ → Option ℕ
position S start reserve t = then_some (nat_lt (offset S start t) reserve) (start + offset S start t)
