-- The number of each refusal, and of an answer.
use Rattle.std.specs.Prelude.{ℕ, Ok, Err, Result}
use Rattle.runner.specs.declared.refusal.CallRefusal.{CallRefusal}
use Rattle.runner.specs.declared.refusal.CallRefusal.TheVariants.{NoSuchTask, RowArea, FewSlots, TooEarly, NoJob, ClockEnd}

abbrev pub call_number : CallRefusal → ℕ
call_number NoSuchTask = 6
call_number RowArea = 7
call_number FewSlots = 8
call_number TooEarly = 22
call_number NoJob = 23
call_number ClockEnd = 24

-- 0 is no refusal
abbrev pub answer : Result (Unit {0}) CallRefusal → ℕ
answer (Ok u) = 0
answer (Err e) = call_number e
