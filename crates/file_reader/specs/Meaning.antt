-- What a file means: what it holds, or its first fault.
use Rattle.std.specs.Prelude.{◌≡◌, ℕ, ◌≤◌, Bool, true, List, [], ◌∷◌, ◌++◌, length, take, Some}
use Rattle.std.specs.List.{flat_map}
use Rattle.plan.specs.Rows.{Task}
use Rattle.file_parts.specs.declared.due.Due.{Due}
use Rattle.file_parts.specs.declared.due.Due.TheVariants.{Table}
use Rattle.file_parts.specs.declared.fault.Fault.{Fault}
use Rattle.file_parts.specs.declared.settings.Settings.{Settings}
use Rattle.file_reader.specs.Grammar.{Part, Parts, layout_letter, header, row_bytes, call_bytes, part_bytes, section, tasks_in, calls_in, noted}
use Rattle.file_reader.specs.Faults.{header_fault}
use Rattle.file_reader.specs.Steps.{SectionFaulty}

-- a header and whole sections, one after the other, fill a file
pub record Whole (f : List ℕ) (h : Settings) (ps : List Part) : Type 0 where
  pub spelled : f ≡ header h ++ flat_map part_bytes ps
  pub letter : layout_letter h.letter ≡ true
  pub due : Due
  pub parts : Parts ps due
  pub tabled : due ≡ Table → ⊥

-- or they fill it up to p
pub record Begun (f : List ℕ) (p : ℕ) (h : Settings) (ps : List Part) (due : Due) : Type 0 where
  pub within : p ≤ length f
  pub spelled : take p f ≡ header h ++ flat_map part_bytes ps
  pub letter : layout_letter h.letter ≡ true
  pub parts : Parts ps due

-- settings, tasks, the bytes of the calls, and whether there are notes
pub record Holds (f : List ℕ) (h : Settings) (ts : List Task) (calls : List ℕ) (notes : Bool) : Type 0 where
  pub parts : List Part
  pub whole : Whole f h parts
  pub tasks : tasks_in parts ≡ ts
  pub called : flat_map call_bytes (calls_in parts) ≡ calls
  pub noting : noted parts ≡ notes

-- everything left of the fault is well formed
pub data FirstFault (f : List ℕ) : Fault → Type 0 where
  in_header : (e : Fault) → header_fault f ≡ Some e → FirstFault f e
  in_section : (e : Fault) (p : ℕ) (h : Settings) (ps : List Part) (due : Due) → Begun f p h ps due → SectionFaulty f p due e → FirstFault f e

pub data Answer : Type 0 where
  acceptance : Settings → List Task → List ℕ → Bool → Answer
  refusal : Fault → Answer

abbrev pub Means : List ℕ → Answer → Type 0
Means f (acceptance h ts calls notes) = Holds f h ts calls notes
Means f (refusal e) = FirstFault f e

-- no file has two meanings
abbrev pub Only : List ℕ → Answer → Type 0
Only f x = (y : Answer) → Means f y → y ≡ x

-- the file that is written for settings, tasks and calls
abbrev pub calls_section : List ℕ → List ℕ
calls_section [] = []
calls_section (b ∷ bytes) = section 67 (b ∷ bytes)

abbrev pub written : Settings → List Task → List ℕ → List ℕ
written h ts calls = header h ++ section 84 (flat_map row_bytes ts) ++ calls_section calls
