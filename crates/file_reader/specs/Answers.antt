-- What reading a file answers.
use Rattle.std.specs.Prelude.{◌≡◌, ℕ, false, List, [], Ok, Err, Result}
use Rattle.plan.specs.Rows.{Task}
use Rattle.file_parts.specs.declared.fault.Fault.{Fault}
use Rattle.file_reader.specs.declared.reading.Contents.{Contents}
use Rattle.file_reader.specs.Meaning.{Answer, acceptance, refusal, written}

-- an answer, with the tasks of the table that was filled
abbrev pub answer : List Task → Result Contents Fault → Answer
answer ts (Ok c) = acceptance c.settings ts c.calls.now c.noted
answer ts (Err e) = refusal e

-- a refused file leaves no rows
abbrev pub RowsLeft : List Task → Result Contents Fault → Type 0
RowsLeft ts (Ok c) = Unit {0}
RowsLeft ts (Err e) = ts ≡ []

-- a file without notes is what is written for what it holds
abbrev pub Returns : List ℕ → List Task → Result Contents Fault → Type 0
Returns f ts (Ok c) = c.noted ≡ false → f ≡ written c.settings ts c.calls.now
Returns f ts (Err e) = Unit {0}
