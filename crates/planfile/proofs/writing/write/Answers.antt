use Rattle.std.proofs.Common.{◌≡◌, ◌+◌, ◌≤◌, true, false, ◌++◌, length, drop, sym, ap, ◌∙◌, arith, rules}
use Rattle.std.proofs.lemmas.Result.{err_from_is_err_and}
use Rattle.plan.specs.Views.{tasks}
use Rattle.areas.specs.Areas.{placed}
use Rattle.file_reader.specs.Grammar.{layout_letter}
use Rattle.file_reader.specs.Meaning.{acceptance, written}
use Rattle.file_reader.specs.Readers.{CallsWhole}
use Rattle.planfile.specs.Writing.{IsNotWritten, Wrote}
use Rattle.planfile.proofs.FileWritten.{section_length, whole_read, same_bytes, comes_back}
use Rattle.file_reader.proofs.GoodRows.{tasks_taken}
use Rattle.file_reader.proofs.OneMeaning.{only}
use Rattle.file_reader.proofs.RoundTrip.{written_length}
use Rattle.planfile.proofs.writing.write.Goals as goal

pub returns-then-not-names_layout : goal.returns-then-not-names_layout
returns-then-not-names_layout c =
    let h = c.args.settings in
    let ts = tasks c.args.table.now in
    let calls = c.args.calls.now in
    let why = IsNotWritten.letter (sym c.if-not-names_layout.ensures) in
    record { written = (why, search rules); back = tt; again = same_bytes h ts calls; returns = comes_back h ts calls c.args.area.now _ _ (why, search rules) }

pub returns-in_err-test_calls : goal.returns-in_err-test_calls
returns-in_err-test_calls c =
    let h = c.args.settings in
    let ts = tasks c.args.table.now in
    let calls = c.args.calls.now in
    let r = err_from_is_err_and c.from_residual.result c.from_residual.ensures.1 in
    let why = IsNotWritten.calls_at_fault c.in_err-test_calls.field-0.0 (sym c.if-not-names_layout.ensures) c.in_err-test_calls.ensures in
    rw (r.1, r.2) (record { written = (why, search rules); back = tt; again = same_bytes h ts calls; returns = comes_back h ts calls c.args.area.now _ _ (why, search rules) })

pub returns-then-calls-gt-LONGEST_CALLS : goal.returns-then-calls-gt-LONGEST_CALLS
returns-then-calls-gt-LONGEST_CALLS c =
    let h = c.args.settings in
    let ts = tasks c.args.table.now in
    let calls = c.args.calls.now in
    let why = IsNotWritten.long_calls (sym c.if-not-names_layout.ensures) c.in_ok-test_calls.ensures c.if-calls-gt-LONGEST_CALLS.true in
    record { written = (why, search rules); back = tt; again = same_bytes h ts calls; returns = comes_back h ts calls c.args.area.now _ _ (why, search rules) }

pub returns-then-area-len : goal.returns-then-area-len
returns-then-area-len c =
    let h = c.args.settings in
    let ts = tasks c.args.table.now in
    let calls = c.args.calls.now in
    let long : length (written h ts calls) ≡ c.file_len-len.result = written_length h ts calls ∙ omega (arith, c.rows_len-rows.ensures.is, c.file_len-len.ensures, section_length calls) in
    let why = IsNotWritten.short_area (sym c.if-not-names_layout.ensures) c.in_ok-test_calls.ensures c.if-calls-gt-LONGEST_CALLS.false (omega (arith, long, c.if-area-len.true)) in
    record { written = (why, search rules); back = tt; again = same_bytes h ts calls; returns = comes_back h ts calls c.args.area.now _ _ (why, search rules) }

pub returns : goal.returns
returns c =
    let h = c.args.settings in
    let ts = tasks c.args.table.now in
    let calls = c.args.calls.now in
    let area = c.args.area.now in
    let letter : layout_letter h.letter ≡ true = sym c.if-not-names_layout.ensures in
    let whole : CallsWhole calls 0 (length calls) = c.in_ok-test_calls.ensures in
    let w = written h ts calls in
    let n = c.file_len-len.result in
    let long : length w ≡ n = written_length h ts calls ∙ omega (arith, c.rows_len-rows.ensures.is, c.file_len-len.ensures, section_length calls) in
    let fits : c.new-pen.result.len + length w ≤ length c.new-pen.result.area.now = omega (arith, c.new-pen.ensures.none, ap length c.new-pen.ensures.whole, long, c.if-area-len.false) in
    let out : c.put_file.new.pen.area.now ≡ w ++ drop n area =
    c.put_file.ensures.written fits
    ∙ ap (λ a. placed a c.new-pen.result.len w) c.new-pen.ensures.whole
    ∙ ap (λ k. placed area k w) c.new-pen.ensures.none
    ∙ ap (λ k. w ++ drop k area) (let e : 0 + length w ≡ n = omega (arith, long) in e) in
    let means = whole_read h ts calls letter (tasks_taken c.args.table.now) whole in
    let wrote : Wrote h ts calls area _ n = record {
      letter = letter;
      whole = whole;
      short = c.if-calls-gt-LONGEST_CALLS.false;
      long = sym long;
      room = c.if-area-len.false;
      bytes = search (rules, out);
    } in
    record { written = wrote; back = (means, only (written h ts calls) (acceptance h ts calls false) means); again = same_bytes h ts calls; returns = comes_back h ts calls area _ _ wrote }
