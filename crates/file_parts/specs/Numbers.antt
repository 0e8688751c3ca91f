-- The number and the place of each refusal.
use Rattle.std.specs.Prelude.{Bool, true, false, ℕ}
use Rattle.file_parts.specs.declared.fault.Fault.{Fault}
use Rattle.file_parts.specs.declared.fault.Fault.TheVariants.{Mark, Version, ShortFile, Letter, Order, Name, Cut, NoCalls, NoTicks, ZeroBudget, PeriodTooLong, BudgetOverPeriod, TooManyRows}
use Rattle.file_parts.specs.declared.not_written.NotWritten.{NotWritten}
use Rattle.file_parts.specs.declared.not_written.NotWritten.TheVariants as writing

-- each fault's number and place; for the last four the place is a row
abbrev pub number_of : Fault → ℕ
number_of Mark = 10
number_of Version = 11
number_of (ShortFile len) = 12
number_of (Letter at) = 13
number_of (Order at) = 14
number_of (Name at) = 15
number_of (Cut end) = 16
number_of (NoCalls at) = 17
number_of (NoTicks at) = 17
number_of (ZeroBudget row) = 1
number_of (PeriodTooLong row) = 2
number_of (BudgetOverPeriod row) = 3
number_of (TooManyRows row) = 21

abbrev pub place_of : Fault → ℕ
place_of Mark = 0
place_of Version = 3
place_of (ShortFile len) = len
place_of (Letter at) = at
place_of (Order at) = at
place_of (Name at) = at
place_of (Cut end) = end
place_of (NoCalls at) = at
place_of (NoTicks at) = at
place_of (ZeroBudget row) = row
place_of (PeriodTooLong row) = row
place_of (BudgetOverPeriod row) = row
place_of (TooManyRows row) = row

abbrev pub names_row : Fault → Bool
names_row Mark = false
names_row Version = false
names_row (ShortFile len) = false
names_row (Letter at) = false
names_row (Order at) = false
names_row (Name at) = false
names_row (Cut end) = false
names_row (NoCalls at) = false
names_row (NoTicks at) = false
names_row (ZeroBudget row) = true
names_row (PeriodTooLong row) = true
names_row (BudgetOverPeriod row) = true
names_row (TooManyRows row) = true

-- why a file is not written
abbrev pub refusal_number : NotWritten → ℕ
refusal_number writing.Letter = 13
refusal_number (writing.Calls fault) = number_of fault
refusal_number writing.LongCalls = 18
refusal_number writing.ShortArea = 19

abbrev pub refusal_place : NotWritten → ℕ
refusal_place writing.Letter = 0
refusal_place (writing.Calls fault) = place_of fault
refusal_place writing.LongCalls = 0
refusal_place writing.ShortArea = 0
