-- What a layout means, and what every layout owes.
use Rattle.std.specs.Prelude.{◌≡◌, ℕ, zero, suc, ◌+◌, ◌*◌, ◌<◌, ◌≤◌, if◌then◌else◌, Some, None, Option, nat_lt}
use Rattle.plan.specs.Method.{full}

-- ticks run from 0 to one below this
abbrev pub horizon : ℕ
horizon = 1000000000

-- `serves t p` is the processor that serves bin p in tick t, if any
pub record Meaning : Type 0 where
  pub processors : ℕ
  pub bins : ℕ
  pub shortest : ℕ
  pub load : ℕ → ℕ
  pub serves : ℕ → ℕ → Option ℕ

-- an answer that holds in the ticks of the range only
abbrev pub in_time : ℕ → Option ℕ → Option ℕ
in_time t answer = if nat_lt t horizon then answer else None

-- the bounds that every layout keeps: bins and ticks that are not there are not served
pub record Formed (m : Meaning) : Type 0 where
  pub some : 1 ≤ m.processors
  pub most : m.processors ≤ 16
  pub few : m.bins ≤ 64
  pub loads : (p : ℕ) → m.bins ≤ p → m.load p ≡ 0
  pub bins : (t p : ℕ) → m.bins ≤ p → m.serves t p ≡ None
  pub ticks : (t p : ℕ) → horizon ≤ t → m.serves t p ≡ None

-- exclusion: a processor that is answered is there, and serves one bin in a tick
pub record Exclusive (m : Meaning) : Type 0 where
  pub within : (t p q : ℕ) → m.serves t p ≡ Some q → q < m.processors
  pub apart : (t p p' q : ℕ) → m.serves t p ≡ Some q → m.serves t p' ≡ Some q → p ≡ p'

abbrev pub one : Option ℕ → ℕ
one None = 0
one (Some q) = 1

-- how many of the ticks t, t + 1, .., of which there are `many`, serve bin p
unfoldable pub supplied : Meaning → ℕ → ℕ → ℕ → ℕ
supplied m p t zero = 0
supplied m p t (suc many) = one (m.serves t p) + supplied m p (suc t) many

-- supply: every window of the range that is as long as the shortest period, or longer, serves each bin for its load
abbrev pub Supplies : Meaning → Type 0
Supplies m = (p t l : ℕ) → m.shortest ≤ l → t + l ≤ horizon → m.load p * l ≤ supplied m p t l * full

-- the layout of nobody
abbrev pub empty : Meaning
empty = record { processors = 1; bins = 0; shortest = 0; load = λ p. 0; serves = λ t p. None }
