-- A kind of layout and its name.
use Rattle.std.specs.Prelude.{ℕ, List, codes, Ok, Err, Result, ◌==◌, if◌then◌else◌}
use Rattle.file_parts.specs.declared.section_kind.UnknownLetter.{UnknownLetter}
use Rattle.file_reader.specs.declared.layout_kind.LayoutKind.{LayoutKind}
use Rattle.file_reader.specs.declared.layout_kind.LayoutKind.TheVariants.{Flat, Semi, Dedicated}

-- the kind that a byte is the letter of
abbrev pub layout_kind_named : ℕ → Result LayoutKind UnknownLetter
layout_kind_named b =
    if b == 70 then Ok Flat
    else if b == 83 then Ok Semi
    else if b == 68 then Ok Dedicated
    else Err (record {})

abbrev pub layout_kind_words : LayoutKind → List ℕ
layout_kind_words Flat = codes "flat"
layout_kind_words Semi = codes "semi-partitioned"
layout_kind_words Dedicated = codes "dedicated"
