-- One piece of a file after the other.
use Rattle.std.specs.Prelude.{◌≡◌, ℕ, ◌+◌, ◌<◌, ◌≤◌, List, [], ◌∷◌, ◌++◌, length, Some, None}
use Rattle.std.specs.List.{flat_map}
use Rattle.plan.specs.Rows.{Task}
use Rattle.file_parts.specs.declared.call.Call.{Call}
use Rattle.file_parts.specs.declared.due.Due.{Due}
use Rattle.file_parts.specs.declared.due.Due.TheVariants.{Table, Calls}
use Rattle.file_parts.specs.declared.fault.Fault.{Fault}
use Rattle.file_parts.specs.declared.fault.Fault.TheVariants.{ShortFile}
use Rattle.file_parts.specs.declared.section.Section.{Section}
use Rattle.file_reader.specs.Bytes.{two, Stands}
use Rattle.file_reader.specs.Grammar.{Part, table_part, calls_part, note_part, section, row_bytes, call_bytes, part_bytes, Taken, GoodCalls, Follows}
use Rattle.file_parts.specs.Sections.{letter_of, body_of, letter_place}
use Rattle.file_reader.specs.Faults.{refused, row_fault, call_fault, section_fault}

-- a row is taken from p on: the table held ts and holds us now, and the next piece stands at q
pub record RowTaken (f : List ℕ) (p : ℕ) (ts : List Task) (q : ℕ) (us : List Task) : Type 0 where
  pub task : Task
  pub stands : Stands f p (row_bytes task)
  pub good : refused task (length ts) ≡ None
  pub after : q ≡ p + length (row_bytes task)
  pub added : us ≡ ts ++ task ∷ []

-- whole rows from p to q
pub record RowsTaken (f : List ℕ) (p q : ℕ) (ts : List Task) : Type 0 where
  pub stand : Stands f p (flat_map row_bytes ts)
  pub after : q ≡ p + length (flat_map row_bytes ts)
  pub taken : Taken ts

-- whole calls from p to q
pub record CallsTaken (f : List ℕ) (p q : ℕ) (cs : List Call) : Type 0 where
  pub stand : Stands f p (flat_map call_bytes cs)
  pub after : q ≡ p + length (flat_map call_bytes cs)
  pub good : GoodCalls cs

-- what a table holds once a section is read into it
abbrev pub rows_after : List Task → Part → List Task
rows_after ts (table_part us) = us
rows_after ts (calls_part cs) = ts
rows_after ts (note_part bytes) = ts

-- a whole section from p to q, which was due
pub record SectionTaken (f : List ℕ) (p : ℕ) (due : Due) (ts : List Task) (q : ℕ) (due' : Due) (us : List Task) (s : Section) : Type 0 where
  pub part : Part
  pub stands : Stands f p (part_bytes part)
  pub after : q ≡ p + length (part_bytes part)
  pub within : q ≤ length f
  pub follows : Follows due part due'
  pub rows : us ≡ rows_after ts part
  pub told : section (letter_of s) (body_of s) ≡ part_bytes part
  pub placed : letter_place s ≡ p

-- no whole section stands at p: the file ends without a table, or what is wrong stands in the section's head, or behind whole rows or whole calls of it
pub data SectionFaulty (f : List ℕ) (p : ℕ) (due : Due) : Fault → Type 0 where
  no_table : p ≡ length f → due ≡ Table → SectionFaulty f p due (ShortFile (length f))
  in_head : (e : Fault) → p < length f → section_fault f p due ≡ Some e → SectionFaulty f p due e
  in_row : (e : Fault) (n q : ℕ) (ts : List Task) → due ≡ Table → Stands f p (84 ∷ two n) → p + 3 + n ≤ length f → RowsTaken f (p + 3) q ts → q < p + 3 + n → row_fault f q (p + 3 + n) (length ts) ≡ Some e → SectionFaulty f p due e
  in_call : (e : Fault) (n q : ℕ) (cs : List Call) → due ≡ Calls → Stands f p (67 ∷ two n) → p + 3 + n ≤ length f → CallsTaken f (p + 3) q cs → q < p + 3 + n → call_fault f q (p + 3 + n) ≡ Some e → SectionFaulty f p due e
