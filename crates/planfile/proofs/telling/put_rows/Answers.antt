use Rattle.std.proofs.Common.{sym, ap, ◌∙◌, subst}
use Rattle.std.specs.List.{flat_map}
use Rattle.std.proofs.lemmas.List.{take_all}
use Rattle.areas.specs.Pens.{Puts}
use Rattle.areas.proofs.Putting.{puts_more, puts_nothing}
use Rattle.file_reader.specs.Grammar.{row_bytes}
use Rattle.planfile.proofs.RowByRow.{spelled, rows_spelled}
use Rattle.planfile.proofs.telling.put_rows.Goals as goal

pub loop-row-init : goal.loop-row-init
loop-row-init c = puts_nothing c.args.pen.now

pub loop-row-preserved : goal.loop-row-preserved
loop-row-preserved c =
    let rs = c.rows-row-items.result.now in
    let i = c.loop-row.row-index in
    let r = c.row-item.result in
    puts_more spelled rs i r r c.loop-row-test.true c.row-item.is c.loop-row.invariant c.put_row.ensures

pub returns : goal.returns
returns c =
    let rs = c.rows-row-items.result.now in
    let all = take_all c.loop-row.row-index rs c.loop-row-test.false in
    subst (λ bs. Puts c.args.pen.now bs c.loop-row.pen) (ap (flat_map spelled) all ∙ sym (rows_spelled rs) ∙ ap (flat_map row_bytes) c.rows-row-items.ensures) c.loop-row.invariant
