-- What a plan file is made of, and how each piece is spelled.
use Rattle.std.specs.Prelude.{◌≡◌, ℕ, ◌≤◌, Bool, true, false, ◌||◌, List, [], ◌∷◌, ◌++◌, length, None, ◌==◌, ◌≢◌}
use Rattle.std.specs.List.{flat_map}
use Rattle.plan.specs.Rows.{Task, row_refusal}
use Rattle.file_parts.specs.declared.call.Call.{Call}
use Rattle.file_parts.specs.declared.call.Call.TheVariants.{Request, Done, Ticks}
use Rattle.file_parts.specs.declared.settings.Settings.{Settings}
use Rattle.file_parts.specs.declared.due.Due.{Due}
use Rattle.file_parts.specs.declared.due.Due.TheVariants.{Table, Calls, Notes}
use Rattle.file_reader.specs.Bytes.{two, four}

-- "NPF"
abbrev pub mark : List ℕ
mark = 78 ∷ 80 ∷ 70 ∷ []

abbrev pub version : List ℕ
version = 0 ∷ 1 ∷ []

-- F, S or D
abbrev pub layout_letter : ℕ → Bool
layout_letter b = b == 70 || (b == 83 || b == 68)

abbrev pub header : Settings → List ℕ
header s = mark ++ version ++ s.processors ∷ s.delta ∷ s.letter ∷ []

abbrev pub row_bytes : Task → List ℕ
row_bytes t = four t.budget ++ four t.period ++ length t.name ∷ t.name

-- R, D and K
abbrev pub call_bytes : Call → List ℕ
call_bytes (Request task) = 82 ∷ task ∷ []
call_bytes (Done task) = 68 ∷ task ∷ []
call_bytes (Ticks count) = 75 ∷ two count

-- a section: its letter, the length of its body, its body
abbrev pub section : ℕ → List ℕ → List ℕ
section letter body = letter ∷ two (length body) ++ body

-- what a section holds, by its kind
pub data Part : Type 0 where
  table_part : List Task → Part
  calls_part : List Call → Part
  note_part : List ℕ → Part

-- T, C and N
abbrev pub part_bytes : Part → List ℕ
part_bytes (table_part ts) = section 84 (flat_map row_bytes ts)
part_bytes (calls_part cs) = section 67 (flat_map call_bytes cs)
part_bytes (note_part bytes) = section 78 bytes

-- tasks that a table takes one after the other
pub data Taken : List Task → Type 0 where
  none : Taken []
  one_more : (ts : List Task) (t : Task) → Taken ts → row_refusal t.budget t.period t.name (length ts) ≡ None → Taken (ts ++ t ∷ [])

-- a K of no ticks is no call
abbrev pub Counts : Call → Type 0
Counts (Request task) = Unit {0}
Counts (Done task) = Unit {0}
Counts (Ticks count) = 1 ≤ count

pub data GoodCalls : List Call → Type 0 where
  none : GoodCalls []
  one_more : (cs : List Call) (c : Call) → GoodCalls cs → Counts c → GoodCalls (cs ++ c ∷ [])

-- which section may follow: first T, once; then notes, and once C, with a call in it
pub data Follows : Due → Part → Due → Type 0 where
  rows : (ts : List Task) → Taken ts → Follows Table (table_part ts) Calls
  calls : (cs : List Call) → GoodCalls cs → 1 ≤ length cs → Follows Calls (calls_part cs) Notes
  note : (due : Due) (bytes : List ℕ) → (due ≢ Table) → Follows due (note_part bytes) due

-- sections in order, and what is due after them
pub data Parts : List Part → Due → Type 0 where
  none : Parts [] Table
  one_more : (ps : List Part) (x : Part) (due due' : Due) → Parts ps due → Follows due x due' → Parts (ps ++ x ∷ []) due'

-- what sections hold in all
abbrev pub tasks_in : List Part → List Task
tasks_in [] = []
tasks_in (table_part ts ∷ ps) = ts ++ tasks_in ps
tasks_in (calls_part cs ∷ ps) = tasks_in ps
tasks_in (note_part bytes ∷ ps) = tasks_in ps

abbrev pub calls_in : List Part → List Call
calls_in [] = []
calls_in (table_part ts ∷ ps) = calls_in ps
calls_in (calls_part cs ∷ ps) = cs ++ calls_in ps
calls_in (note_part bytes ∷ ps) = calls_in ps

abbrev pub noted : List Part → Bool
noted [] = false
noted (table_part ts ∷ ps) = noted ps
noted (calls_part cs ∷ ps) = noted ps
noted (note_part bytes ∷ ps) = true
