use Rattle.std.proofs.Common.{◌-◌, length}
use Rattle.file_check.proofs.listing.ListingDisplay.fmt.Given as goal

abbrev pub decreases-loop-section : goal.decreases-loop-section
decreases-loop-section g l = length l.reader.file.now - l.reader.cursor.pos
