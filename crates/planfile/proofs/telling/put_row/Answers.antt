use Rattle.std.proofs.Common.{◌≡◌, ◌∷◌, ◌++◌, [], length, ap, ◌∙◌, subst, rules}
use Rattle.plan.specs.Views.{letters}
use Rattle.areas.specs.Pens.{Puts}
use Rattle.areas.proofs.Putting.{puts_then}
use Rattle.file_reader.specs.Bytes.{four}
use Rattle.planfile.proofs.RowByRow.{each_of, long_spelled}
use Rattle.planfile.proofs.telling.put_row.Goals as goal

pub returns : goal.returns
returns c =
    let r = c.args.row.now in
    let p = c.args.pen.now in
    let p₁ = c.put.new.self in
    let p₂ = c.put-2.new.self in
    let name = letters r.name in
    let same : c.as_bytes-letters.result.now ≡ name = c.as_bytes-letters.ensures ∙ ap letters c.name-name.ensures in
    let budget : c.to_be_bytes.result ≡ four r.budget = c.to_be_bytes.ensures ∙ long_spelled c.budget.result (search rules) ∙ ap four c.budget.ensures in
    let period : c.to_be_bytes-2.result ≡ four r.period = c.to_be_bytes-2.ensures ∙ long_spelled c.period.result (search rules) ∙ ap four c.period.ensures in
    let told = ap (λ bs. each_of bs ++ each_of c.to_be_bytes-2.result ++ length c.as_bytes-letters.result.now ∷ []) budget ∙ ap (λ bs. four r.budget ++ each_of bs ++ length c.as_bytes-letters.result.now ∷ []) period ∙ ap (λ bs. four r.budget ++ four r.period ++ length bs ∷ []) same in
    let numbers : Puts p (four r.budget ++ four r.period ++ length name ∷ []) p₁ = subst (λ bs. Puts p bs p₁) told c.put.ensures.put in
    let bytes = subst (λ bs. Puts p₁ bs p₂) same c.put-2.ensures.put in
    puts_then numbers bytes
