-- Worked cases of the method, with what closing gives in each.
use Rattle.std.specs.Prelude.{◌≡◌, ℕ, List, [], ◌∷◌, map, Err}
use Rattle.plan.specs.declared.verdict.PlanRefusal.TheVariants.{ShortPeriod}
use Rattle.plan.specs.Rows.{Task}
use Rattle.plan.specs.Closing.{Verdict, Good, closed}

-- rows are pairs of budget and period
pub record Case : Type 0 where
  pub rows : List (ℕ × ℕ)
  pub processors : ℕ
  pub delta : ℕ
  pub verdict : Verdict
  pub slot : ℕ
  pub bins : List ℕ
  pub loads : List ℕ
  pub reserves : List ℕ

-- a task of this budget and period; names decide nothing, so all have one
abbrev pub task : ℕ × ℕ → Task
task r = record { budget = r.0; period = r.1; name = 120 ∷ [] }

-- the case as the definitions have it
abbrev pub answered : Case → Case
answered c = record {
  rows = c.rows;
  processors = c.processors;
  delta = c.delta;
  verdict = (closed (map task c.rows) c.processors c.delta).verdict;
  slot = (closed (map task c.rows) c.processors c.delta).slot;
  bins = (closed (map task c.rows) c.processors c.delta).bins;
  loads = (closed (map task c.rows) c.processors c.delta).loads;
  reserves = (closed (map task c.rows) c.processors c.delta).reserves;
}

-- two halves fill a processor
abbrev pub halves : Case
halves = record { rows = (1, 2) ∷ (1, 2) ∷ []; processors = 1; delta = 1; verdict = Good; slot = 2; bins = 0 ∷ 0 ∷ []; loads = 1000000 ∷ []; reserves = 2 ∷ [] }

-- three thirds do not, since charges are rounded up
abbrev pub thirds : Case
thirds = record { rows = (1, 3) ∷ (1, 3) ∷ (1, 3) ∷ []; processors = 2; delta = 1; verdict = Good; slot = 3; bins = 0 ∷ 0 ∷ 1 ∷ []; loads = 666668 ∷ 333334 ∷ []; reserves = 3 ∷ 2 ∷ [] }

-- a slot of one tick, and none
abbrev pub narrow : Case
narrow = record { rows = (1, 3) ∷ []; processors = 1; delta = 3; verdict = Good; slot = 1; bins = 0 ∷ []; loads = 333334 ∷ []; reserves = 1 ∷ [] }

abbrev pub too_narrow : Case
too_narrow = record { rows = (1, 3) ∷ []; processors = 1; delta = 4; verdict = Err ShortPeriod; slot = 0; bins = []; loads = []; reserves = [] }

-- tasks that need a processor each
abbrev pub whole : Case
whole = record { rows = (1, 1) ∷ (1, 1) ∷ []; processors = 2; delta = 1; verdict = Good; slot = 1; bins = 0 ∷ 1 ∷ []; loads = 1000000 ∷ 1000000 ∷ []; reserves = 1 ∷ 1 ∷ [] }

abbrev pub three_bins : Case
three_bins = record { rows = (5, 9) ∷ (8, 17) ∷ (5, 9) ∷ []; processors = 3; delta = 1; verdict = Good; slot = 9; bins = 0 ∷ 1 ∷ 2 ∷ []; loads = 555556 ∷ 470589 ∷ 555556 ∷ []; reserves = 7 ∷ 6 ∷ 7 ∷ [] }

abbrev pub four_bins : Case
four_bins = record { rows = (56, 100) ∷ (60, 100) ∷ (53, 100) ∷ (63, 100) ∷ []; processors = 3; delta = 1; verdict = Good; slot = 100; bins = 0 ∷ 1 ∷ 2 ∷ 3 ∷ []; loads = 560000 ∷ 600000 ∷ 530000 ∷ 630000 ∷ []; reserves = 72 ∷ 75 ∷ 70 ∷ 78 ∷ [] }

-- a reserve of 2 would serve the bin twice in some 6 ticks, where its two tasks may need 3
abbrev pub quarters : Case
quarters = record { rows = (1, 4) ∷ (1, 4) ∷ []; processors = 1; delta = 1; verdict = Good; slot = 4; bins = 0 ∷ 0 ∷ []; loads = 500000 ∷ []; reserves = 3 ∷ [] }

abbrev pub cases : List Case
cases = halves ∷ thirds ∷ narrow ∷ too_narrow ∷ whole ∷ three_bins ∷ four_bins ∷ quarters ∷ []

pub record Worked : Type 0 where
  -- in each case the definitions give what the case says
  pub each : map answered cases ≡ cases
  -- charges rounded down would give one bin here
  pub not_one_bin : (answered thirds).loads ≡ 999999 ∷ [] → ⊥
  -- and a reserve rounded down two ticks
  pub not_two_ticks : (answered quarters).reserves ≡ 2 ∷ [] → ⊥
