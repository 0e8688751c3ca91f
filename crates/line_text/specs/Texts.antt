-- The lines of a listing, by their bytes.
use Rattle.std.specs.Prelude.{ℕ, ◌≤◌, if◌then◌else◌, List, [], ◌∷◌, ◌++◌, length, codes, Some, None, Option, ◌==◌}
use Prim.Native.String.{String}
use Rattle.std.specs.List.{flat_map}
use Rattle.line_text.specs.declared.line.Asked.{Asked}
use Rattle.line_text.specs.declared.line.Asked.TheVariants.{Request, Done}
use Rattle.line_text.specs.declared.line.Line.{Line}
use Rattle.line_text.specs.declared.line.Line.TheVariants.{Plan, Bin, Tick, TickRefused, Answer, End, FileRefused, RowRefused, Refused}
use Rattle.line_text.specs.Decimals.{digits}

-- a word and the number behind it
abbrev pub field : String → ℕ → List ℕ
field word n = codes word ++ digits n

-- a processor runs a task or is idle
abbrev pub entry : ℕ → List ℕ
entry e = if e == 255 then codes " -" else field " " e

abbrev pub called : Asked → ℕ → List ℕ
called Request task = field "request " task
called Done task = field "done " task

abbrev pub answered : Option ℕ → List ℕ
answered None = codes " ok"
answered (Some n) = field " refused " n

-- one piece after the other, and the byte that ends a line
abbrev pub ended : List (List ℕ) → List ℕ
ended [] = 10 ∷ []
ended (piece ∷ pieces) = piece ++ ended pieces

abbrev pub text : Line → List ℕ
text (Plan slot bins) = ended (field "slot " slot ∷ field " bins " bins ∷ [])
text (Bin bin load reserve) = ended (field "bin " bin ∷ field " load " load ∷ field " reserve " reserve ∷ [])
text (Tick clock row) = ended (field "tick " clock ∷ flat_map entry row.now ∷ [])
text (TickRefused n) = ended (field "tick refused " n ∷ [])
text (Answer asked task refusal) = ended (called asked task ∷ answered refusal ∷ [])
text (End clock) = ended (field "end " clock ∷ [])
text (FileRefused n at) = ended (field "refused " n ∷ field " at " at ∷ [])
text (RowRefused n row) = ended (field "refused " n ∷ field " at row " row ∷ [])
text (Refused n) = ended (field "refused " n ∷ [])

-- how many entries a line shows
abbrev pub shown : Line → ℕ
shown (Plan slot bins) = 0
shown (Bin bin load reserve) = 0
shown (Tick clock row) = length row.now
shown (TickRefused n) = 0
shown (Answer asked task refusal) = 0
shown (End clock) = 0
shown (FileRefused n at) = 0
shown (RowRefused n row) = 0
shown (Refused n) = 0

-- no line of 16 processors or fewer is longer than so many bytes
abbrev pub Short : ℕ → Line → Type 0
Short most l = shown l ≤ 16 → length (text l) ≤ most
