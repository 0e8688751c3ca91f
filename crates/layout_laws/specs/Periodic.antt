-- Periodic service: a bin that starts at A is served in R of every S ticks.
use Rattle.std.specs.Prelude.{ℕ, zero, suc, ◌+◌, Bool, if◌then◌else◌, nat_lt}
use Rattle.layout_laws.specs.Offset.{offset}

unfoldable pub served : ℕ → ℕ → ℕ → ℕ → Bool
served S A R t = nat_lt (offset S A t) R

abbrev pub ones : Bool → ℕ
ones b = if b then 1 else 0

-- how many of the ticks t, t + 1, .., of which there are `many`, pass a test
unfoldable pub count : (ℕ → Bool) → ℕ → ℕ → ℕ
count f t zero = 0
count f t (suc many) = ones (f t) + count f (suc t) many

-- the served ticks of a window
abbrev pub serving : ℕ → ℕ → ℕ → ℕ → ℕ → ℕ
serving S A R t many = count (served S A R) t many
