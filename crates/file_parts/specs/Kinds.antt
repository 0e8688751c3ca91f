-- A kind of section, its letter and its name.
use Rattle.std.specs.Prelude.{ℕ, List, codes, Ok, Err, Result, ◌==◌, if◌then◌else◌}
use Rattle.file_parts.specs.declared.section_kind.SectionKind.{SectionKind}
use Rattle.file_parts.specs.declared.section_kind.SectionKind.TheVariants.{Table, Calls, Note}
use Rattle.file_parts.specs.declared.section_kind.UnknownLetter.{UnknownLetter}

abbrev pub section_kind_letter : SectionKind → ℕ
section_kind_letter Table = 84
section_kind_letter Calls = 67
section_kind_letter Note = 78

abbrev pub section_kind_words : SectionKind → List ℕ
section_kind_words Table = codes "table"
section_kind_words Calls = codes "calls"
section_kind_words Note = codes "note"

-- the kind that a byte is the letter of
abbrev pub section_kind_named : ℕ → Result SectionKind UnknownLetter
section_kind_named b =
    if b == 84 then Ok Table
    else if b == 67 then Ok Calls
    else if b == 78 then Ok Note
    else Err (record {})
