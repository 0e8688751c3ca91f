use Rattle.std.proofs.Common.{◌≡◌, length, arith}
use Rattle.std.specs.List.{prefix_len}
use Rattle.std.proofs.lemmas.List.Sums.{prefix_len-drop_all}
use Rattle.std.proofs.lemmas.Str.{IsUtf8-from_ascii}
use Rattle.plan.specs.Rows.{printable}
use Rattle.plan.proofs.Naming.{ascii}
use Rattle.plan.proofs.name.Name.new.Goals as goal

pub unreachable-requires : goal.unreachable-requires
unreachable-requires c =
    let t = c.args.bytes.now in
    let all : prefix_len printable t ≡ length t = omega (arith, c.loop-at.invariant.passed, c.loop-at-test.false, c.loop-at.auto.at-end, prefix_len-drop_all printable t c.loop-at.at c.loop-at-test.false) in
    c.in_default.ensures.cases.0 (IsUtf8-from_ascii t (ascii t all))
