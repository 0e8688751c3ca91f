use Rattle.std.proofs.Common.{ap, rules}
use Rattle.line_text.specs.Texts.{text}
use Rattle.line_text.proofs.Lengths.{short_as}
use Rattle.line_text.proofs.Told.{told_one, told_two, told_three}
use Rattle.line_text.proofs.telling.put_line.Goals.{in-Plan, in-Bin, in-Tick, in-TickRefused, in-Answer, in-End, in-FileRefused, in-RowRefused, in-Refused}
use Rattle.line_text.proofs.telling.put_line.Goals as goal

pub returns-clause-told : goal.returns-clause-told
returns-clause-told c =
    elim c.match-line.branch [
      | in-Plan w ↦ told_two w.put_field.ensures w.put_field-in-Plan.ensures w.pen-is c.put.ensures.put (ap text w.in-Plan.is)
      | in-Bin w ↦ told_three w.put_field-in-Bin.ensures w.put_field-in-Bin-2.ensures w.put_field-in-Bin-3.ensures w.pen-is c.put.ensures.put (ap text w.in-Bin.is)
      | in-Tick w ↦ told_two w.put_field-in-Tick.ensures w.put_row.ensures.told w.pen-is c.put.ensures.put (ap text w.in-Tick.is)
      | in-TickRefused w ↦ told_one w.put_field-in-TickRefused.ensures w.pen-is c.put.ensures.put (ap text w.in-TickRefused.is)
      | in-Answer w ↦ told_two w.put_call.ensures w.put_answer.ensures w.pen-is c.put.ensures.put (ap text w.in-Answer.is)
      | in-End w ↦ told_one w.put_field-in-End.ensures w.pen-is c.put.ensures.put (ap text w.in-End.is)
      | in-FileRefused w ↦ told_two w.put_field-in-FileRefused.ensures w.put_field-in-FileRefused-2.ensures w.pen-is c.put.ensures.put (ap text w.in-FileRefused.is)
      | in-RowRefused w ↦ told_two w.put_field-in-RowRefused.ensures w.put_field-in-RowRefused-2.ensures w.pen-is c.put.ensures.put (ap text w.in-RowRefused.is)
      | in-Refused w ↦ told_one w.put_field-in-Refused.ensures w.pen-is c.put.ensures.put (ap text w.in-Refused.is)
    ]

pub returns-clause-short : goal.returns-clause-short
returns-clause-short c =
    elim c.match-line.branch [
      | in-Plan w ↦ short_as w.in-Plan.is (search rules, search rules)
      | in-Bin w ↦ short_as w.in-Bin.is (search rules, search rules, search rules)
      | in-Tick w ↦ short_as w.in-Tick.is (search rules, w.put_row.ensures.short)
      | in-TickRefused w ↦ short_as w.in-TickRefused.is (search rules)
      | in-Answer w ↦ short_as w.in-Answer.is (search rules, search rules)
      | in-End w ↦ short_as w.in-End.is (search rules)
      | in-FileRefused w ↦ short_as w.in-FileRefused.is (search rules, search rules)
      | in-RowRefused w ↦ short_as w.in-RowRefused.is (search rules, search rules)
      | in-Refused w ↦ short_as w.in-Refused.is (search rules)
    ]
