use Rattle.std.proofs.Common.{refl, subst, arith}
use Rattle.std.specs.List.{flat_map}
use Rattle.std.proofs.lemmas.List.{take_all}
use Rattle.areas.specs.Pens.{Puts}
use Rattle.line_text.specs.Texts.{entry}
use Rattle.line_text.proofs.Entries.{entries_short}
use Rattle.areas.proofs.Putting.{puts_more, puts_nothing}
use Rattle.line_text.proofs.telling.put_row.Goals as goal

pub loop-task-init : goal.loop-task-init
loop-task-init c = puts_nothing c.args.pen.now

pub loop-task-preserved : goal.loop-task-preserved
loop-task-preserved c =
    puts_more entry c.args.row.now c.loop-task.task-index _ 0 (omega arith) refl c.loop-task.invariant c.put_entry.ensures

pub returns-clause-told : goal.returns-clause-told
returns-clause-told c =
    subst (λ row. Puts c.args.pen.now (flat_map entry row) c.loop-task.pen) (take_all c.loop-task.task-index c.args.row.now c.loop-task-test.false) c.loop-task.invariant

pub returns-clause-short : goal.returns-clause-short
returns-clause-short c = entries_short c.args.row.now (λ i. let fits = c.type_inv.row i in omega arith)
