-- A section by its kind: its letter, its body, and where its letter stands.
use Rattle.std.specs.Prelude.{List, ℕ}
use Rattle.file_parts.specs.declared.section.Section.{Section}
use Rattle.file_parts.specs.declared.section.Section.TheVariants.{Table, Calls, Note}
use Rattle.file_parts.specs.declared.section_kind.SectionKind.{SectionKind}
use Rattle.file_parts.specs.declared.section_kind.SectionKind.TheVariants as kind

abbrev pub kind_of : Section → SectionKind
kind_of (Table body at) = kind.Table
kind_of (Calls body at) = kind.Calls
kind_of (Note body at) = kind.Note

abbrev pub letter_of : Section → ℕ
letter_of (Table body at) = 84
letter_of (Calls body at) = 67
letter_of (Note body at) = 78

abbrev pub body_of : Section → List ℕ
body_of (Table body at) = body.now
body_of (Calls body at) = body.now
body_of (Note body at) = body.now

abbrev pub letter_place : Section → ℕ
letter_place (Table body at) = at
letter_place (Calls body at) = at
letter_place (Note body at) = at
