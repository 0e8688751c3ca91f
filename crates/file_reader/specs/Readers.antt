-- Where a reader stands, before and after a section.
use Rattle.std.specs.Prelude.{◌≡◌, ℕ, ◌+◌, ◌<◌, ◌≤◌, min, Bool, true, false, cond, List, [], ◌∷◌, length, Some, None, Ok, Err, Option, Result, ◌==◌, ◌≢◌}
use Rattle.plan.specs.Rows.{Task}
use Rattle.file_parts.specs.declared.call.Call.{Call}
use Rattle.file_parts.specs.declared.due.Due.{Due}
use Rattle.file_parts.specs.declared.due.Due.TheVariants.{Table, Calls, Notes}
use Rattle.file_parts.specs.declared.fault.Fault.{Fault}
use Rattle.file_parts.specs.declared.fault.Fault.TheVariants.{ShortFile}
use Rattle.file_reader.specs.declared.reader.Reader.{Reader}
use Rattle.file_parts.specs.declared.section.Section.{Section}
use Rattle.file_parts.specs.declared.section.Section.TheVariants as kind
use Rattle.file_reader.specs.Bytes.{two, Stands}
use Rattle.file_reader.specs.Faults.{its_turn, section_fault, row_fault, call_fault}
use Rattle.file_parts.specs.Sections.{letter_of, body_of, letter_place}
use Rattle.file_reader.specs.Steps.{SectionTaken, SectionFaulty, RowsTaken, CallsTaken}

-- a reader behind the header, or at the end of a file that is shorter
pub record Fresh (f : List ℕ) (d : Reader) : Type 0 where
  pub file : d.file.now ≡ f
  pub at : d.cursor.pos ≡ min 8 (length f)
  pub due : d.due ≡ Table
  pub noted : d.noted ≡ false

-- what is wrong with the head of a section, or with the end of a file
abbrev pub no_table : Due → ℕ → Option Fault
no_table Table len = Some (ShortFile len)
no_table Calls len = None
no_table Notes len = None

abbrev pub head_fault : List ℕ → ℕ → Due → Option Fault
head_fault f p due = cond (p == length f) (no_table due (length f)) (section_fault f p due)

-- the head of a section at p that is due, in its letter and in its length, which the file holds; or none at the end of a file that has a table
pub record HeadRead (f : List ℕ) (p : ℕ) (due : Due) (s : Section) : Type 0 where
  pub good : section_fault f p due ≡ None
  pub stands : Stands f p (letter_of s ∷ two (length (body_of s)))
  pub body : Stands f (p + 3) (body_of s)
  pub inside : p + 3 + length (body_of s) ≤ length f
  pub placed : letter_place s ≡ p
  pub turn : its_turn due (letter_of s) ≡ true
  pub some : letter_of s ≡ 67 → 1 ≤ length (body_of s)

abbrev pub Headed : List ℕ → ℕ → Due → Option Section → Type 0
Headed f p due (Some s) = HeadRead f p due s
Headed f p due None = (p ≡ length f) × (due ≢ Table)

-- the reading of rows, or of calls, from p to e breaks off behind whole ones
pub record RowsBroken (f : List ℕ) (p e : ℕ) (x : Fault) : Type 0 where
  pub at : ℕ
  pub tasks : List Task
  pub before : RowsTaken f p at tasks
  pub inside : at < e
  pub fault : row_fault f at e (length tasks) ≡ Some x

pub record CallsBroken (f : List ℕ) (p e : ℕ) (x : Fault) : Type 0 where
  pub at : ℕ
  pub calls : List Call
  pub before : CallsTaken f p at calls
  pub inside : at < e
  pub fault : call_fault f at e ≡ Some x

pub record CallsWhole (f : List ℕ) (p e : ℕ) : Type 0 where
  pub calls : List Call
  pub taken : CallsTaken f p e calls

-- a note makes a reader say that there were notes
abbrev pub noted_after : Bool → Section → Bool
noted_after n (kind.Table body at) = n
noted_after n (kind.Calls body at) = n
noted_after n (kind.Note body at) = true

-- after a section, or at the file's end: the reader was d and is d', the table held ts and holds us
abbrev pub Came : Reader → List Task → Reader → List Task → Option Section → Type 0
Came d ts d' us (Some s) = SectionTaken d.file.now d.cursor.pos d.due ts d'.cursor.pos d'.due us s × (d'.noted ≡ noted_after d.noted s)
Came d ts d' us None = (d.cursor.pos ≡ length d.file.now) × (d.due ≢ Table) × (d'.cursor.pos ≡ d.cursor.pos) × (d'.due ≡ d.due) × (d'.noted ≡ d.noted) × (us ≡ ts)

-- the next section with its body, or what is wrong with it
abbrev pub Sectioned : Reader → List Task → Reader → List Task → Result (Option Section) Fault → Type 0
Sectioned d ts d' us (Ok o) = Came d ts d' us o
Sectioned d ts d' us (Err e) = SectionFaulty d.file.now d.cursor.pos d.due e × (d'.due ≡ d.due) × (d'.noted ≡ d.noted)

-- after a fault the reader stands where it stood, and the table has no rows
pub record Stopped (d : Reader) (d' : Reader) (us : List Task) (e : Fault) : Type 0 where
  pub faulty : SectionFaulty d.file.now d.cursor.pos d.due e
  pub at : d'.cursor.pos ≡ d.cursor.pos
  pub due : d'.due ≡ d.due
  pub noted : d'.noted ≡ d.noted
  pub cleared : us ≡ []
