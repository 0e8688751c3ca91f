use Rattle.std.proofs.Common.{◌-◌, length}
use Rattle.file_check.proofs.listing.calls.Given as goal

abbrev pub decreases-loop-call : goal.decreases-loop-call
decreases-loop-call g l = length l.calls.bytes.now - l.calls.cursor.pos
