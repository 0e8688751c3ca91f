-- What a person is told of each refusal, as the bytes of its text.
use Rattle.std.specs.Prelude.{ℕ, List, codes}
use Rattle.plan.specs.declared.refusal.RowRefusal.{RowRefusal}
use Rattle.plan.specs.declared.refusal.RowRefusal.TheVariants.{NameLength, NameByte, NoBudget, LongPeriod, BudgetAbovePeriod, TableFull}
use Rattle.plan.specs.declared.verdict.PlanRefusal.{PlanRefusal}
use Rattle.plan.specs.declared.verdict.PlanRefusal.TheVariants.{BadProcessors, BadDelta, NoRows, ShortPeriod}

abbrev pub row_words : RowRefusal → List ℕ
row_words NameLength = codes "the name is not 1 to 16 bytes long"
row_words (NameByte at) = codes "the name has a byte that is not printable ASCII"
row_words NoBudget = codes "the budget is 0"
row_words LongPeriod = codes "the period is above 1000000"
row_words BudgetAbovePeriod = codes "the budget is above the period"
row_words TableFull = codes "the table has 64 rows already"

abbrev pub plan_words : PlanRefusal → List ℕ
plan_words BadProcessors = codes "the processors are not 1 to 16"
plan_words BadDelta = codes "delta is not 1 to 16"
plan_words NoRows = codes "the table has no rows"
plan_words ShortPeriod = codes "the shortest period is below delta"
