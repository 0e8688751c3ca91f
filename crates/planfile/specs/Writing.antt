-- What is written, or why it is not.
use Rattle.std.specs.Prelude.{◌≡◌, ℕ, ◌<◌, ◌≤◌, true, false, List, ◌++◌, length, drop, Ok, Err, Result}
use Rattle.plan.specs.Rows.{Task}
use Rattle.file_parts.specs.declared.fault.Fault.{Fault}
use Rattle.file_parts.specs.declared.not_written.NotWritten.{NotWritten}
use Rattle.file_parts.specs.declared.not_written.NotWritten.TheVariants.{Letter, Calls, LongCalls, ShortArea}
use Rattle.file_parts.specs.declared.settings.Settings.{Settings}
use Rattle.file_reader.specs.Grammar.{layout_letter}
use Rattle.file_reader.specs.Readers.{CallsWhole, CallsBroken}
use Rattle.file_reader.specs.Meaning.{acceptance, Means, Only, written}

-- letter, calls, their length, and then the area; what is tested later counts only where all before it is good
pub data IsNotWritten (h : Settings) (ts : List Task) (calls area : List ℕ) : NotWritten → Type 0 where
  letter : layout_letter h.letter ≡ false → IsNotWritten h ts calls area Letter
  calls_at_fault : (e : Fault) → layout_letter h.letter ≡ true → CallsBroken calls 0 (length calls) e → IsNotWritten h ts calls area (Calls e)
  long_calls : layout_letter h.letter ≡ true → CallsWhole calls 0 (length calls) → 65535 < length calls → IsNotWritten h ts calls area LongCalls
  short_area : layout_letter h.letter ≡ true → CallsWhole calls 0 (length calls) → length calls ≤ 65535 → length area < length (written h ts calls) → IsNotWritten h ts calls area ShortArea

-- the file stands in the first n bytes of the area, and the rest is as it was
pub record Wrote (h : Settings) (ts : List Task) (calls area area' : List ℕ) (n : ℕ) : Type 0 where
  pub letter : layout_letter h.letter ≡ true
  pub whole : CallsWhole calls 0 (length calls)
  pub short : length calls ≤ 65535
  pub long : n ≡ length (written h ts calls)
  pub room : n ≤ length area
  pub bytes : area' ≡ written h ts calls ++ drop n area

abbrev pub WrittenOrNot : Settings → List Task → List ℕ → List ℕ → List ℕ → Result ℕ NotWritten → Type 0
WrittenOrNot h ts calls area area' (Ok n) = Wrote h ts calls area area' n
WrittenOrNot h ts calls area area' (Err e) = IsNotWritten h ts calls area e × (area' ≡ area)

-- what is written reads back the same, and in no other way
abbrev pub ReadsBack : Settings → List Task → List ℕ → Result ℕ NotWritten → Type 0
ReadsBack h ts calls (Ok n) = Means (written h ts calls) (acceptance h ts calls false) × Only (written h ts calls) (acceptance h ts calls false)
ReadsBack h ts calls (Err e) = Unit {0}

-- a file without notes that holds these settings, tasks and calls is, byte for byte, the file that is written
abbrev pub SameBytes : Settings → List Task → List ℕ → Type 0
SameBytes h ts calls = (f : List ℕ) → Means f (acceptance h ts calls false) → f ≡ written h ts calls

-- what an accepted file without notes holds is written, where the area has room for it, and is that file
abbrev pub ComesBack : Settings → List Task → List ℕ → List ℕ → List ℕ → Result ℕ NotWritten → Type 0
ComesBack h ts calls area area' r = (f : List ℕ) → Means f (acceptance h ts calls false) → length calls ≤ 65535 → length f ≤ length area → (r ≡ Ok (length f)) × (area' ≡ f ++ drop (length f) area)
