-- The number of each refusal.
use Rattle.std.specs.Prelude.{ℕ, Ok, Err}
use Rattle.plan.specs.declared.refusal.RowRefusal.{RowRefusal}
use Rattle.plan.specs.declared.refusal.RowRefusal.TheVariants.{NameLength, NameByte, NoBudget, LongPeriod, BudgetAbovePeriod, TableFull}
use Rattle.plan.specs.declared.verdict.PlanRefusal.{PlanRefusal}
use Rattle.plan.specs.declared.verdict.PlanRefusal.TheVariants.{BadProcessors, BadDelta, NoRows, ShortPeriod}
use Rattle.plan.specs.Closing.{Verdict}

abbrev pub row_number : RowRefusal → ℕ
row_number NameLength = 15
row_number (NameByte at) = 15
row_number NoBudget = 1
row_number LongPeriod = 2
row_number BudgetAbovePeriod = 3
row_number TableFull = 21

abbrev pub plan_number : PlanRefusal → ℕ
plan_number BadProcessors = 4
plan_number BadDelta = 5
plan_number NoRows = 25
plan_number ShortPeriod = 26

-- 0 is no refusal
abbrev pub verdict_number : Verdict → ℕ
verdict_number (Ok good) = 0
verdict_number (Err e) = plan_number e
