use Rattle.std.proofs.Common.{◌≡◌, ℕ, ◌+◌, ◌≤◌, length, get_or, take, drop, ap, ◌∙◌, subst, arith, rules}
use Rattle.std.proofs.lemmas.List.{take_rest, length-take-le, length-drop}
use Rattle.file_reader.specs.Bytes.{four, Stands}
use Rattle.file_reader.specs.Faults.{task_at}
use Rattle.file_reader.specs.RowReads.{row_used}
use Rattle.file_reader.proofs.Spelling.{row_stands}
use Rattle.file_reader.proofs.rows.row.Goals as goal

pub returns : goal.returns
returns c =
    let b = c.args.bytes.now in
    let n : ℕ = get_or b 8 0 in
    let enough : 9 + n ≤ length b = search rules in
    let named : length (take n (drop 9 b)) ≡ n = length-take-le n (drop 9 b) (omega (arith, length-drop 9 b, enough)) in
    let used : 9 + n ≡ row_used b = search rules in
    record {
      is = search rules;
      rest = take_rest b (9 + n) ∙ ap (λ k. drop k b) used;
      spelled = λ _. row_stands b 0 (task_at b 0)
          (subst (λ x. Stands b 0 (four x)) c.long.ensures.is c.long.ensures.stands)
          (subst (λ x. Stands b 4 (four x)) c.long-2.ensures.is c.long-2.ensures.stands)
          (omega (arith, enough)) named (ap (λ k. take k (drop 9 b)) named);
    }
