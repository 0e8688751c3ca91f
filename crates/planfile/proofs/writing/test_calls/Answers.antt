use Rattle.std.proofs.Common.{ℕ, Some, sym, ◌∙◌, subst}
use Rattle.file_reader.specs.CallLists.{NextCall}
use Rattle.file_reader.specs.Readers.{CallsWhole}
use Rattle.file_reader.proofs.Taking.{no_calls, calls_more}
use Rattle.planfile.proofs.writing.test_calls.Goals as goal

pub loop-init : goal.loop-init
loop-init c = (c.new-calls.ensures.bytes_are, subst (CallsWhole c.args.bytes.now 0) (sym c.new-calls.ensures.at) (no_calls c.args.bytes.now 0))

pub loop-preserved : goal.loop-preserved
loop-preserved c =
    let b = c.args.bytes.now in
    let p : ℕ = c.loop.calls.cursor.pos in
    let q : ℕ = c.next.new.self.cursor.pos in
    let call = c.in-Some.field-0 in
    let i = c.loop.invariant in
    let came : NextCall b p q (Some call) = subst (NextCall b p q) c.in-Some.is (subst (λ l. NextCall l p q c.in_ok-next.field-0) i.0 c.in_ok-next.ensures.read) in
    (c.in_ok-next.ensures.bytes ∙ i.0, calls_more b 0 p q call i.1 came.0 came.1 came.2)
