use Rattle.std.proofs.Common.{Some, None, sym, ◌∙◌, subst}
use Rattle.std.proofs.lemmas.Result.{err_from_is_err_and}
use Rattle.plan.specs.Views.{tasks}
use Rattle.file_reader.specs.Steps.{SectionFaulty}
use Rattle.file_reader.specs.Meaning.{Holds, FirstFault, acceptance, refusal}
use Rattle.file_reader.specs.Readers.{Came}
use Rattle.file_reader.proofs.Progressing.{Progress, calls_now, started_at, faulted, reader_progressed, calls_kept, reader_finished}
use Rattle.file_reader.proofs.OneMeaning.{one_meaning}
use Rattle.file_reader.proofs.RoundTrip.{written_back}
use Rattle.file_reader.proofs.reading.read.Goals as goal

pub returns-in_err-settings : goal.returns-in_err-settings
returns-in_err-settings c =
    let r = err_from_is_err_and c.from_residual.result c.from_residual.ensures.1 in
    let means = FirstFault.in_header c.in_err-settings.field-0.0 c.in_err-settings.ensures in
    rw (r.1, r.2) (record { means = means; only = λ y m. one_meaning c.args.file.now y (refusal c.in_err-settings.field-0.0) m means; returns = tt; rows = c.clear.ensures })

pub loop-section-init : goal.loop-section-init
loop-section-init c =
    let f = c.args.file.now in
    let h = c.in_ok-settings.ensures in
    let d = c.new-reader.ensures in
    (d.file, started_at f c.in_ok-settings.settings c.new-reader.result.cursor.pos c.new-reader.result.due (tasks c.clear.new.self) c.new-reader.result.noted h.1 h.2 d.at d.due c.clear.ensures d.noted)

pub returns-in_err-section : goal.returns-in_err-section
returns-in_err-section c =
    let r = err_from_is_err_and c.from_residual-in_err-section.result c.from_residual-in_err-section.ensures.1 in
    let stopped = c.in_err-section.ensures.read in
    let i = c.loop-section.invariant in
    let d = c.loop-section.reader in
    let means = faulted c.args.file.now c.in_ok-settings.settings d.cursor.pos d.due (tasks c.loop-section.table) c.loop-section.calls.now d.noted c.in_err-section.field-0.0 i.1 (subst (λ k. SectionFaulty k d.cursor.pos d.due c.in_err-section.field-0.0) i.0 stopped.faulty) in
    rw (r.1, r.2) (record { means = means; only = λ y m. one_meaning c.args.file.now y (refusal c.in_err-section.field-0.0) m means; returns = tt; rows = stopped.cleared })

pub loop-section-preserved-in-Calls : goal.loop-section-preserved-in-Calls
loop-section-preserved-in-Calls c =
    let i = c.loop-section.invariant in
    let d = c.loop-section.reader in
    let d' = c.next.new.self in
    let came : Came d (tasks c.loop-section.table) d' (tasks c.next.new.table) (Some c.in-Some.section) = subst (Came d (tasks c.loop-section.table) d' (tasks c.next.new.table)) c.in-Some.is c.in_ok-section.ensures.read in
    let g = reader_progressed c.args.file.now c.in_ok-settings.settings d d' (tasks c.loop-section.table) (tasks c.next.new.table) c.loop-section.calls.now c.in-Some.section i.0 i.1 came in
    (c.in_ok-section.ensures.file ∙ i.0, subst (λ s. Progress c.args.file.now c.in_ok-settings.settings d'.cursor.pos d'.due (tasks c.next.new.table) (calls_now c.loop-section.calls.now s) d'.noted) c.in-Calls.is g)

pub loop-section-preserved : goal.loop-section-preserved
loop-section-preserved c =
    let i = c.loop-section.invariant in
    let d = c.loop-section.reader in
    let d' = c.next.new.self in
    let came : Came d (tasks c.loop-section.table) d' (tasks c.next.new.table) (Some c.in-Some.section) = subst (Came d (tasks c.loop-section.table) d' (tasks c.next.new.table)) c.in-Some.is c.in_ok-section.ensures.read in
    let g = reader_progressed c.args.file.now c.in_ok-settings.settings d d' (tasks c.loop-section.table) (tasks c.next.new.table) c.loop-section.calls.now c.in-Some.section i.0 i.1 came in
    (c.in_ok-section.ensures.file ∙ i.0, subst (λ k. Progress c.args.file.now c.in_ok-settings.settings d'.cursor.pos d'.due (tasks c.next.new.table) k d'.noted) (calls_kept c.in-Some.section c.loop-section.calls.now c.in_default-section.not-Calls) g)

pub returns : goal.returns
returns c =
    let i = c.loop-section.invariant in
    let d = c.loop-section.reader in
    let d' = c.next.new.self in
    let came : Came d (tasks c.loop-section.table) d' (tasks c.next.new.table) None = subst (Came d (tasks c.loop-section.table) d' (tasks c.next.new.table)) c.in_default.is c.in_ok-section.ensures.read in
    let held = reader_finished c.args.file.now c.in_ok-settings.settings d d' (tasks c.loop-section.table) (tasks c.next.new.table) c.loop-section.calls.now i.0 i.1 came in
    let f = c.args.file.now in
    let h = c.in_ok-settings.settings in
    let us = tasks c.next.new.table in
    let calls = c.loop-section.calls.now in
    let means : Holds f h us calls c.noted.result = subst (Holds f h us calls) (sym c.noted.ensures) held in
    record {
      means = means;
      only = λ y m. one_meaning f y (acceptance h us calls c.noted.result) m means;
      returns = λ quiet. written_back f h us calls (subst (Holds f h us calls) quiet means);
      rows = tt;
    }
