use Rattle.std.proofs.Common.{◌≡◌, length, sym, ap, ◌∙◌, arith}
use Rattle.std.specs.List.{flat_map}
use Rattle.std.proofs.lemmas.List.{take_all}
use Rattle.std.proofs.lemmas.List.Folds.{length-flat_map-take}
use Rattle.plan.specs.Views.{tasks}
use Rattle.file_reader.specs.Grammar.{row_bytes}
use Rattle.file_reader.proofs.GoodRows.{tasks_taken, rows_short}
use Rattle.planfile.proofs.RowByRow.{spelled, rows_spelled, rows_more}
use Rattle.planfile.proofs.telling.rows_len.Goals as goal

pub overflow_add-len : goal.overflow_add-len
overflow_add-len c =
    let t = c.args.table.now in
    let rs = c.rows-row-items.result.now in
    let i = c.loop-row.row-index in
    let r = c.row-item.result in
    let whole : length (flat_map spelled rs) ≡ length (flat_map row_bytes (tasks t)) = ap length (sym (rows_spelled rs) ∙ ap (flat_map row_bytes) c.rows-row-items.ensures) in
    let front = length-flat_map-take spelled rs i r c.loop-row-test.true in
    let at = ap (λ x. length (spelled x)) c.row-item.is in
    omega (arith, c.loop-row.invariant, c.row_len-len.ensures, at, front, whole, rows_short (tasks t) (tasks_taken t))

pub loop-row-preserved : goal.loop-row-preserved
loop-row-preserved c =
    let rs = c.rows-row-items.result.now in
    let i = c.loop-row.row-index in
    let r = c.row-item.result in
    omega (arith, c.loop-row.invariant, c.row_len-len.ensures, rows_more rs i r r c.loop-row-test.true c.row-item.is)

pub returns : goal.returns
returns c =
    let t = c.args.table.now in
    let rs = c.rows-row-items.result.now in
    let all = take_all c.loop-row.row-index rs c.loop-row-test.false in
    let is : c.loop-row.len ≡ length (flat_map row_bytes (tasks t)) = c.loop-row.invariant ∙ ap length (ap (flat_map spelled) all ∙ sym (rows_spelled rs) ∙ ap (flat_map row_bytes) c.rows-row-items.ensures) in
    record { is = is; short = omega (arith, is, rows_short (tasks t) (tasks_taken t)) }
