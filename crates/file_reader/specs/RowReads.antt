-- What reading a row answers.
use Rattle.std.specs.Prelude.{ℕ, ◌+◌, cond, List, length, nat_lt, slice_index, Some, None}
use Rattle.file_reader.specs.declared.rows.RowFault.{RowFault}
use Rattle.file_reader.specs.declared.rows.RowFault.TheVariants.{Name, Cut}
use Rattle.file_reader.specs.declared.rows.RowRead.{RowRead}
use Rattle.file_reader.specs.Bytes.{long_at}
use Rattle.file_reader.specs.Faults.{name_length}

abbrev pub row_fault_number : RowFault → ℕ
row_fault_number Name = 15
row_fault_number Cut = 16

abbrev pub failed : RowFault → RowRead
failed fault = record { budget = 0; period = 0; name_at = 0; name_len = 0; fault = Some fault }

-- the row that bytes begin with, or where they end inside it, or the length of its name is wrong
abbrev pub row_read : List ℕ → RowRead
row_read b =
    cond (nat_lt (length b) 9) (failed Cut)
    (cond (name_length (slice_index b 8))
    (cond (nat_lt (length b) (9 + slice_index b 8)) (failed Cut)
    (record { budget = long_at b 0; period = long_at b 4; name_at = 9; name_len = slice_index b 8; fault = None }))
    (failed Name))

-- how many bytes it takes; none where it is at fault
abbrev pub row_used : List ℕ → ℕ
row_used b =
    cond (nat_lt (length b) 9) 0
    (cond (name_length (slice_index b 8))
    (cond (nat_lt (length b) (9 + slice_index b 8)) 0 (9 + slice_index b 8))
    0)
