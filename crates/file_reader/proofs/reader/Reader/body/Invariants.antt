use Rattle.std.proofs.Common.{◌≡◌, ◌-◌}
use Rattle.file_reader.proofs.reader.Reader.body.Given as goal

-- the guard by its parts: the cursor, and the limit that it restores
abbrev pub invariant-loop-guard : goal.invariant-loop-guard
invariant-loop-guard g l = record {
  limit : l.guard.0.now.limit ≡ l.initial.guard.0.now.limit;
  whole : l.guard.1.0 ≡ l.initial.guard.1.0;
  lent : l.guard.0.ghost_name ≡ l.initial.guard.0.ghost_name;
  taken : g.P.Pieces.whole l.file l.initial.guard.0.now.pos l.guard.0.now.pos l.pieces;
}

abbrev pub decreases-loop-guard : goal.decreases-loop-guard
decreases-loop-guard g l = l.guard.0.now.limit - l.guard.0.now.pos
