use Rattle.std.proofs.Common.{◌≡◌, ◌++◌, length, sym, ap, ◌∙◌, subst}
use Rattle.std.specs.List.{flat_map}
use Rattle.std.proofs.lemmas.List.{append-nil}
use Rattle.std.proofs.lemmas.Bool.{eqb-true}
use Rattle.plan.specs.Views.{tasks}
use Rattle.areas.specs.Pens.{Puts}
use Rattle.areas.proofs.Putting.{puts_then}
use Rattle.file_reader.specs.Grammar.{header, section, row_bytes}
use Rattle.planfile.proofs.FileWritten.{tabled, no_section, some_section}
use Rattle.planfile.proofs.telling.put_file.Goals as goal

pub returns-then-not-is_empty : goal.returns-then-not-is_empty
returns-then-not-is_empty c =
    let h = c.args.settings in
    let rows = flat_map row_bytes (tasks c.args.table.now) in
    let calls = c.args.calls.now in
    let p = c.args.pen.now in
    let p₃ = c.put_rows.new.pen in
    let p₅ = c.put-then-not-is_empty.new.self in
    let front = tabled p c.put.new.self c.put_head.new.pen p₃ h rows c.args.rows c.requires.rows c.put.ensures.put c.put_head.ensures c.put_rows.ensures in
    let called = puts_then c.put_head-then-not-is_empty.ensures c.put-then-not-is_empty.ensures.put in
    let all = puts_then front called in
    subst (λ l. Puts p (header h ++ section 84 rows ++ l) p₅) (sym (some_section calls (sym c.if-not-is_empty.ensures))) all

pub returns-else-not-is_empty : goal.returns-else-not-is_empty
returns-else-not-is_empty c =
    let h = c.args.settings in
    let rows = flat_map row_bytes (tasks c.args.table.now) in
    let calls = c.args.calls.now in
    let p = c.args.pen.now in
    let p₃ = c.put_rows.new.pen in
    let none : length calls ≡ 0 = eqb-true (length calls) 0 (sym c.if-not-is_empty.ensures) in
    let front = tabled p c.put.new.self c.put_head.new.pen p₃ h rows c.args.rows c.requires.rows c.put.ensures.put c.put_head.ensures c.put_rows.ensures in
    subst (λ bs. Puts p bs p₃) (sym (append-nil (header h ++ section 84 rows)) ∙ ap (λ l. header h ++ section 84 rows ++ l) (sym (no_section calls none))) front
