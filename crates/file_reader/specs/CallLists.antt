-- A list of calls, one by one.
use Rattle.std.specs.Prelude.{◌≡◌, ℕ, ◌+◌, ◌<◌, List, length, Some, None, Option}
use Rattle.file_parts.specs.declared.call.Call.{Call}
use Rattle.file_reader.specs.declared.calls.Calls.{Calls}
use Rattle.file_parts.specs.declared.fault.Fault.{Fault}
use Rattle.file_reader.specs.Bytes.{Stands}
use Rattle.file_reader.specs.Grammar.{call_bytes, Counts}
use Rattle.file_reader.specs.Faults.{call_fault}

pub record Begins (bytes : List ℕ) (list : Calls) : Type 0 where
  pub bytes_are : list.bytes.now ≡ bytes
  pub at : list.cursor.pos ≡ 0

-- the call at p, behind which the list stands at q; none at the end
abbrev pub NextCall : List ℕ → ℕ → ℕ → Option Call → Type 0
NextCall b p q (Some c) = (Stands b p (call_bytes c)) × (Counts c) × (q ≡ p + length (call_bytes c)) × (p < length b)
NextCall b p q None = (p ≡ length b) × (q ≡ p)

abbrev pub NoCall : List ℕ → ℕ → ℕ → Fault → Type 0
NoCall b p q e = (call_fault b p (length b) ≡ Some e) × (q ≡ p) × (p < length b)
