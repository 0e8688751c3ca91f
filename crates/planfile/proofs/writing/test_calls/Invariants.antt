use Rattle.std.proofs.Common.{◌≡◌, ◌-◌, length}
use Rattle.file_reader.specs.Readers.{CallsWhole}
use Rattle.planfile.proofs.writing.test_calls.Given as goal

abbrev pub invariant-loop : goal.invariant-loop
invariant-loop l = (l.calls.bytes.now ≡ l.bytes) × CallsWhole l.bytes 0 l.calls.cursor.pos

abbrev pub decreases-loop : goal.decreases-loop
decreases-loop l = length l.bytes - l.calls.cursor.pos
