use Rattle.std.proofs.Common.{◌≡◌, ◌+◌, ◌++◌, ◌≤◌, length, drop}
use Rattle.line_text.specs.Decimals.{digits}
use Rattle.line_text.proofs.telling.put_number.Given as goal

-- the digits of the rest stand before those that are written
abbrev pub invariant-loop-rest : goal.invariant-loop-rest
invariant-loop-rest l = (length l.bytes ≡ 20) × (l.at ≤ 19) × (digits l.rest ++ drop (l.at + 1) l.bytes ≡ digits l.initial.rest)

abbrev pub decreases-loop-rest : goal.decreases-loop-rest
decreases-loop-rest l = l.rest
