-- Shares keep what the layouts' laws rest on.
use Rattle.std.specs.Prelude.{◌≡◌, ℕ, ◌<◌, ◌≤◌, length, slice_index, slice_index_or}
use Rattle.std.proofs.Common.{arith}
use Rattle.std.proofs.lemmas.List.{length-map, get_or-map, get_or_past}
use Rattle.arrayvec.specs.ArrayVec.{array_vec_len}
use Rattle.layout_laws.specs.Shares.{share, Fit, Carry}
use Rattle.layout.specs.declared.share.Share.{Share}
use Rattle.layout.specs.declared.shares.Shares.{Shares}
use Rattle.layout.specs.Parts.{load_of, reserve_of}
use Rattle.layout.specs.Shared.{weights, reserved}

pub count_weights : (s : Shares) → length (weights s) ≡ array_vec_len s.bins
count_weights s = length-map s.bins.items load_of

pub count_reserved : (s : Shares) → length (reserved s) ≡ array_vec_len s.bins
count_reserved s = length-map s.bins.items reserve_of

pub fit : (s : Shares) → Fit s.slot s.processors (reserved s)
fit s = s.fit

pub carry : (s : Shares) → 0 < length (weights s) → Carry s.slot s.delta s.shortest (reserved s) (weights s)
carry s h = s.carry (omega (arith, count_weights s))

-- the reserve that stands in the vector
pub share_is : (s : Shares) (p : ℕ) (d : Share) → p < array_vec_len s.bins → share (reserved s) p ≡ (slice_index_or s.bins.items p d).bin.reserve
share_is s p d l = get_or-map reserve_of s.bins.items p d 0 l

pub load_past : (s : Shares) (p : ℕ) → array_vec_len s.bins ≤ p → slice_index (weights s) p ≡ 0
load_past s p l = get_or_past (weights s) p 0 (omega (arith, count_weights s))
