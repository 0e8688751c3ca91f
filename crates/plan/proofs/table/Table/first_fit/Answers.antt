use Rattle.std.proofs.Common.{[], length, take, ap, sym, ◌∙◌, arith}
use Rattle.std.proofs.lemmas.List.{length-map, length-take-le, get_or-map}
use Rattle.plan.specs.Method.{charge}
use Rattle.plan.specs.Closing.{charges_of}
use Rattle.plan.specs.Views.{task_of, tasks}
use Rattle.plan.proofs.Filling.{packs_more}
use Rattle.plan.proofs.FirstFit.{bins_length}
use Rattle.plan.proofs.Rowing.{task_at, tasks_count}
use Rattle.plan.proofs.table.Table.first_fit.Goals as goal

pub put-requires-clause-room : goal.put-requires-clause-room
put-requires-clause-room c =
    let t = c.args.self.now in
    let cs = charges_of (tasks t) in
    let i = c.loop-row.row-index in
    let at = task_at t i c.row-item.result c.rows-row-items.result.now c.rows-row-items.ensures (omega arith) c.row-item.is in
    omega (arith, ap length c.loop-row.invariant.placed, bins_length [] (take i cs), length-take-le i cs (omega (arith, at.0, length-map (tasks t) charge)), at.0, tasks_count t, t.few)

pub loop-row-preserved : goal.loop-row-preserved
loop-row-preserved c =
    let t = c.args.self.now in
    let r = c.row-item.result in
    let i = c.loop-row.row-index in
    let at = task_at t i r c.rows-row-items.result.now c.rows-row-items.ensures (omega arith) c.row-item.is in
    packs_more (charges_of (tasks t)) i c.charge.result c.loop-row.packing c.put.new.self (omega (arith, at.0, length-map (tasks t) charge))
    (get_or-map charge (tasks t) i (task_of r) 0 at.0 ∙ ap charge at.1 ∙ sym c.charge.ensures.is) c.loop-row.invariant c.put.ensures.placed c.put.ensures.loaded
