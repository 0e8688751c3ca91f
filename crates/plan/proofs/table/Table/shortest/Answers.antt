use Rattle.std.proofs.Common.{take, ap, sym, ◌∙◌, arith}
use Rattle.std.proofs.lemmas.List.Sums.{fold_more}
use Rattle.plan.specs.Rows.{Task}
use Rattle.plan.specs.Method.{shorter, shortest_of}
use Rattle.plan.specs.Views.{task_of, tasks}
use Rattle.plan.proofs.Rowing.{task_at}
use Rattle.plan.proofs.table.Table.shortest.Goals as goal

pub loop-row-preserved : goal.loop-row-preserved
loop-row-preserved c =
    let t = c.args.self.now in
    let r = c.row-item.result in
    let i = c.loop-row.row-index in
    let at = task_at t i r c.rows-row-items.result.now c.rows-row-items.ensures (omega arith) c.row-item.is in
    let next = fold_more (λ least (u : Task). shorter least u.period) 0 (tasks t) i (task_of r) at.0 in
    c.shorter-least.ensures ∙ ap (λ x. shorter x c.period.result) c.loop-row.invariant ∙ ap (shorter (shortest_of (take i (tasks t)))) (c.period.ensures ∙ ap (λ (u : Task). u.period) (sym at.1)) ∙ sym next
