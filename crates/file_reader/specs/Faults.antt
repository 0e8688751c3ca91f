-- What is wrong with a piece of a file: refusal and place. A piece's fields are tested from left to right.
use Rattle.std.specs.Prelude.{ℕ, ◌+◌, Bool, cond, ◌&&◌, ◌||◌, List, length, take, drop, Some, None, Option, ◌==◌, nat_lt, slice_index}
use Rattle.plan.specs.Rows.{Task, row_refusal}
use Rattle.plan.specs.declared.refusal.RowRefusal.{RowRefusal}
use Rattle.plan.specs.declared.refusal.RowRefusal.TheVariants.{NameLength, NameByte, NoBudget, LongPeriod, BudgetAbovePeriod, TableFull}
use Rattle.file_parts.specs.declared.due.Due.{Due}
use Rattle.file_parts.specs.declared.due.Due.TheVariants.{Table, Calls, Notes}
use Rattle.file_parts.specs.declared.fault.Fault.{Fault}
use Rattle.file_parts.specs.declared.fault.Fault.TheVariants.{Mark, Version, ShortFile, Letter, Order, Name, Cut, NoCalls, NoTicks, ZeroBudget, PeriodTooLong, BudgetOverPeriod, TooManyRows}
use Rattle.file_reader.specs.Bytes.{word_at, long_at}
use Rattle.file_reader.specs.Grammar.{layout_letter}

-- the header: mark, version, settings
abbrev pub header_fault : List ℕ → Option Fault
header_fault f =
    cond (nat_lt (length f) 3) (Some (ShortFile (length f)))
    (cond (slice_index f 0 == 78 && (slice_index f 1 == 80 && slice_index f 2 == 70))
    (cond (nat_lt (length f) 5) (Some (ShortFile (length f)))
    (cond (word_at f 3 == 1)
    (cond (nat_lt (length f) 8) (Some (ShortFile (length f)))
    (cond (layout_letter (slice_index f 7)) None (Some (Letter 7))))
    (Some Version)))
    (Some Mark))

-- a section's letter and length, where the file has not ended: first the letter, then its turn, then the length, which the file must hold
abbrev pub section_letter : ℕ → Bool
section_letter b = b == 84 || (b == 67 || b == 78)

abbrev pub its_turn : Due → ℕ → Bool
its_turn Table b = b == 84
its_turn Calls b = b == 67 || b == 78
its_turn Notes b = b == 78

abbrev pub section_fault : List ℕ → ℕ → Due → Option Fault
section_fault f p due =
    cond (section_letter (slice_index f p))
    (cond (its_turn due (slice_index f p))
    (cond (nat_lt (length f) (p + 3)) (Some (ShortFile (length f)))
    (cond (nat_lt (length f) (p + 3 + word_at f (p + 1))) (Some (ShortFile (length f)))
    (cond (slice_index f p == 67 && word_at f (p + 1) == 0) (Some (NoCalls (p + 1))) None)))
    (Some (Order p)))
    (Some (Letter p))

-- what a table of k rows says of a task
abbrev pub refused : Task → ℕ → Option RowRefusal
refused t k = row_refusal t.budget t.period t.name k

-- that, as a fault of row k, whose name's length stands at `at`
abbrev pub row_told : ℕ → ℕ → Option RowRefusal → Option Fault
row_told at k None = None
row_told at k (Some NameLength) = Some (Name at)
row_told at k (Some (NameByte i)) = Some (Name (at + 1 + i))
row_told at k (Some NoBudget) = Some (ZeroBudget k)
row_told at k (Some LongPeriod) = Some (PeriodTooLong k)
row_told at k (Some BudgetAbovePeriod) = Some (BudgetOverPeriod k)
row_told at k (Some TableFull) = Some (TooManyRows k)

-- the task whose row stands at p
abbrev pub task_at : List ℕ → ℕ → Task
task_at f p = record { budget = long_at f p; period = long_at f (p + 4); name = take (slice_index f (p + 8)) (drop (p + 9) f) }

-- the length of a name
abbrev pub name_length : ℕ → Bool
name_length n = nat_lt 0 n && nat_lt n 17

-- row k, at p, of a section that ends at e: its numbers, its name's length, its name, and then what a table says
abbrev pub row_fault : List ℕ → ℕ → ℕ → ℕ → Option Fault
row_fault f p e k =
    cond (nat_lt e (p + 9)) (Some (Cut e))
    (cond (name_length (slice_index f (p + 8)))
    (cond (nat_lt e (p + 9 + slice_index f (p + 8))) (Some (Cut e))
    (row_told (p + 8) k (refused (task_at f p) k)))
    (Some (Name (p + 8))))

-- a call at p, of a list that ends at e
abbrev pub call_fault : List ℕ → ℕ → ℕ → Option Fault
call_fault f p e =
    cond (slice_index f p == 82 || slice_index f p == 68)
    (cond (nat_lt e (p + 2)) (Some (Cut e)) None)
    (cond (slice_index f p == 75)
    (cond (nat_lt e (p + 3)) (Some (Cut e)) (cond (word_at f (p + 1) == 0) (Some (NoTicks (p + 1))) None))
    (Some (Letter p)))
