-- What a row of a table is, and which rows are refused.
use Rattle.std.specs.Prelude.{ℕ, Bool, cond, ◌&&◌, ◌||◌, List, length, Some, None, Option, ◌==◌, nat_le, nat_lt}
use Rattle.std.specs.List.{prefix_len}
use Rattle.plan.specs.declared.refusal.RowRefusal.{RowRefusal}
use Rattle.plan.specs.declared.refusal.RowRefusal.TheVariants.{NameLength, NameByte, NoBudget, LongPeriod, BudgetAbovePeriod, TableFull}

-- a task as its row tells it; the name is a list of bytes
pub record Task : Type 0 where
  pub budget : ℕ
  pub period : ℕ
  pub name : List ℕ

-- a byte from 20 to 7E, hexadecimal
abbrev pub printable : ℕ → Bool
printable b = nat_le 32 b && nat_le b 126

-- a name has 1 to 16 bytes, all printable; else the first byte that is not is at fault
abbrev pub name_refusal : List ℕ → Option RowRefusal
name_refusal name = cond (length name == 0 || nat_lt 16 (length name)) (Some NameLength)
    (cond (nat_lt (prefix_len printable name) (length name)) (Some (NameByte (prefix_len printable name))) None)

-- budget and period; both are tested once the name is good
abbrev pub number_refusal : ℕ → ℕ → Option RowRefusal
number_refusal budget period = cond (budget == 0) (Some NoBudget) (cond (nat_lt 1000000 period) (Some LongPeriod) (cond (nat_lt period budget) (Some BudgetAbovePeriod) None))

-- the first of two refusals that applies
abbrev pub first_of : Option RowRefusal → Option RowRefusal → Option RowRefusal
first_of (Some e) other = Some e
first_of None other = other

-- the answer to a row that comes to a table of `count` rows: the first refusal that applies, or none
abbrev pub row_refusal : ℕ → ℕ → List ℕ → ℕ → Option RowRefusal
row_refusal budget period name count = first_of (name_refusal name) (first_of (number_refusal budget period) (cond (nat_lt count 64) None (Some TableFull)))
