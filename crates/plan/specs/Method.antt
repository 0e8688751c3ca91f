-- The numbers of the method: charges, First-Fit bins, the shortest period, reserves.
use Rattle.std.specs.Prelude.{ℕ, suc, ◌+◌, ◌-◌, ◌*◌, ◌/◌, cond, ◌||◌, List, [], ◌∷◌, fold, ◌==◌, nat_le, nat_lt}
use Rattle.plan.specs.Rows.{Task}

-- a whole processor, in millionths
abbrev pub full : ℕ
full = 1000000

-- n ÷ d rounded up
unfoldable pub up : ℕ → ℕ → ℕ
up n d = (n + d - 1) / d

-- the share of a processor that a task needs, in millionths
abbrev pub charge : Task → ℕ
charge t = up (t.budget * full) t.period

-- the lowest bin with room for a charge; the next number where no bin has
abbrev pub place : ℕ → List ℕ → ℕ
place c [] = 0
place c (w ∷ ws) = cond (nat_le (w + c) full) 0 (suc (place c ws))

-- the loads once the charge is put there, into a new bin where no bin has room
abbrev pub put : ℕ → List ℕ → List ℕ
put c [] = c ∷ []
put c (w ∷ ws) = cond (nat_le (w + c) full) ((w + c) ∷ ws) (w ∷ put c ws)

-- First-Fit: the charges come one after another to bins of these loads
abbrev pub loads_from : List ℕ → List ℕ → List ℕ
loads_from ws [] = ws
loads_from ws (c ∷ cs) = loads_from (put c ws) cs

-- the bin that each of them goes to
abbrev pub bins_from : List ℕ → List ℕ → List ℕ
bins_from ws [] = []
bins_from ws (c ∷ cs) = place c ws ∷ bins_from (put c ws) cs

-- the shorter of a period and those before it; 0 says that there was none
abbrev pub shorter : ℕ → ℕ → ℕ
shorter least period = cond (least == 0 || nat_lt period least) period least

-- the shortest period of a table, 0 where it has no rows
abbrev pub shortest_of : List Task → ℕ
shortest_of ts = fold (λ least t. shorter least t.period) 0 ts

-- the ticks of each slot of S that a bin of load W gets, so that windows of δ slots and more give it its load
abbrev pub reserve_of : ℕ → ℕ → ℕ → ℕ
reserve_of S δ W = up (S * (δ + 1) * W) (W + δ * full)
