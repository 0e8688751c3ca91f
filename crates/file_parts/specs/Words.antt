-- Faults, refused writes and calls, in words.
use Rattle.std.specs.Prelude.{ℕ, List, ◌++◌, codes, if◌then◌else◌, nat_eq}
use Rattle.std.specs.Fmt.{decimal}
use Rattle.file_parts.specs.declared.call.Call.{Call}
use Rattle.file_parts.specs.declared.call.Call.TheVariants.{Request, Done, Ticks}
use Rattle.file_parts.specs.declared.fault.Fault.{Fault}
use Rattle.file_parts.specs.declared.fault.Fault.TheVariants.{Mark, Version, ShortFile, Letter, Order, Name, Cut, NoCalls, NoTicks, ZeroBudget, PeriodTooLong, BudgetOverPeriod, TooManyRows}
use Rattle.file_parts.specs.declared.not_written.NotWritten.{NotWritten}
use Rattle.file_parts.specs.declared.not_written.NotWritten.TheVariants as writing

abbrev pub fault_words : Fault → List ℕ
fault_words Mark = codes "the file does not begin with NPF"
fault_words Version = codes "the version is not 1"
fault_words (ShortFile len) = codes "the file ends too early, or has no table"
fault_words (Letter at) = codes "no layout, section or call has this letter"
fault_words (Order at) = codes "this section may not stand here"
fault_words (Name at) = codes "a name is not 1 to 16 bytes of printable ASCII"
fault_words (Cut end) = codes "the section ends inside a row or a call"
fault_words (NoCalls at) = codes "the section of calls has none"
fault_words (NoTicks at) = codes "a call for 0 ticks"
fault_words (ZeroBudget row) = codes "the budget is 0"
fault_words (PeriodTooLong row) = codes "the period is above 1000000"
fault_words (BudgetOverPeriod row) = codes "the budget is above the period"
fault_words (TooManyRows row) = codes "the table has 64 rows already"

abbrev pub refusal_words : NotWritten → List ℕ
refusal_words writing.Letter = codes "no layout has this letter"
refusal_words (writing.Calls fault) = fault_words fault
refusal_words writing.LongCalls = codes "the calls are longer than 65535 bytes"
refusal_words writing.ShortArea = codes "the area is too short for the file"

abbrev pub call_words : Call → List ℕ
call_words (Request task) = codes "request task " ++ decimal task
call_words (Done task) = codes "done task " ++ decimal task
call_words (Ticks count) = if nat_eq count 1 then codes "1 tick" else decimal count ++ codes " ticks"
