-- Names and the bytes that they are made of: what holds while a name is spelled.
use Rattle.std.proofs.Common.{◌≡◌, ℕ, ◌+◌, ◌<◌, ◌≤◌, List, length, take, drop, ⊎_elim, arith}
use Rattle.std.specs.Str.{IsAscii}
use Rattle.std.proofs.lemmas.Bool.{cases_lt}
use Rattle.std.proofs.lemmas.Bool.Decides.{nat_tests}
use Rattle.std.proofs.lemmas.List.{get_or_past}
use Rattle.std.proofs.lemmas.List.Sums.{prefix_len_passes}
use Rattle.std.specs.List.{prefix_len}
use Rattle.plan.specs.Rows.{printable}

-- the first i bytes of t are printable, and are those of the name so far
pub record Spelled (t name : List ℕ) (i : ℕ) : Type 0 where
  pub same : name ≡ take i t
  pub passed : prefix_len printable t ≡ i + prefix_len printable (drop i t)

-- printable bytes are ASCII
pub ascii : (t : List ℕ) → prefix_len printable t ≡ length t → IsAscii t
ascii t all i =
    ⊎_elim (λ (l : i < length t). let p = prefix_len_passes printable t i 0 (omega (arith, all, l)) in grind (arith, nat_tests))
    (λ (l : length t ≤ i). omega (arith, get_or_past t i 0 l)) (cases_lt i (length t))
