use Rattle.std.proofs.Common.{◌≡◌, ℕ, ◌+◌, ◌≤◌, length, sym, refl, ap, ◌∙◌, subst, rules}
use Rattle.std.proofs.lemmas.Result.{err_from_is_err_and}
use Rattle.file_parts.specs.Sections.{letter_of, body_of}
use Rattle.plan.specs.Views.{tasks}
use Rattle.file_reader.specs.Steps.{RowsTaken}
use Rattle.file_reader.specs.Readers.{Headed, HeadRead, RowsBroken, CallsBroken, CallsWhole, noted_after}
use Rattle.file_reader.proofs.Sectioning.{head_faulty, rows_faulty, calls_faulty, rows_taken, calls_taken, note_taken}
use Rattle.file_reader.proofs.reader.Reader.section.Goals as goal
use Rattle.file_reader.proofs.reader.Reader.section.Goals.{in-Table+in_ok-body-in-Table, in-Calls+in_ok-body-in-Calls, in-Note}

pub returns-in_err-section : goal.returns-in_err-section
returns-in_err-section c =
    let f = c.args.self.now.file.now in
    let p = c.args.self.now.cursor.pos in
    let due = c.args.self.now.due in
    let l : p ≤ length f = search rules in
    let r = err_from_is_err_and c.from_residual.result c.from_residual.ensures.1 in
    rw (r.1, r.2) (record { file = search rules; read = (head_faulty f p due c.in_err-section.field-0.0 l c.in_err-section.ensures, search rules, search rules) })

pub returns-in_err-body-in-Table : goal.returns-in_err-body-in-Table
returns-in_err-body-in-Table c =
    let f = c.args.self.now.file.now in
    let p = c.args.self.now.cursor.pos in
    let due = c.args.self.now.due in
    let s = c.in-Some.section in
    let h : HeadRead f p due s = subst (Headed f p due) c.in-Some.is c.in_ok-section.ensures in
    let t : letter_of s ≡ 84 = ap letter_of c.in-Table.is in
    let r = err_from_is_err_and c.from_residual-in_err-body-in-Table.result c.from_residual-in_err-body-in-Table.ensures.1 in
    let b = c.in_err-body-in-Table.ensures in
    rw (r.1, r.2) (record { file = b.file; read = (rows_faulty f p due s h c.in_err-body-in-Table.field-0.0 t (subst (λ k. RowsBroken f (p + 3) (p + 3 + length k) c.in_err-body-in-Table.field-0.0) c.body.ensures b.read), b.due, b.noted) })

pub returns-in_err-body-in-Calls : goal.returns-in_err-body-in-Calls
returns-in_err-body-in-Calls c =
    let f = c.args.self.now.file.now in
    let p = c.args.self.now.cursor.pos in
    let due = c.args.self.now.due in
    let s = c.in-Some.section in
    let h : HeadRead f p due s = subst (Headed f p due) c.in-Some.is c.in_ok-section.ensures in
    let t : letter_of s ≡ 67 = ap letter_of c.in-Calls.is in
    let r = err_from_is_err_and c.from_residual-in_err-body-in-Calls.result c.from_residual-in_err-body-in-Calls.ensures.1 in
    let b = c.in_err-body-in-Calls.ensures in
    rw (r.1, r.2) (record { file = b.file; read = (calls_faulty f p due s h c.in_err-body-in-Calls.field-0.0 t (subst (λ k. CallsBroken f (p + 3) (p + 3 + length k) c.in_err-body-in-Calls.field-0.0) c.body.ensures b.read), b.due, b.noted) })

pub returns : goal.returns
returns c =
    let f = c.args.self.now.file.now in
    let p = c.args.self.now.cursor.pos in
    let due = c.args.self.now.due in
    let ts = tasks c.args.table.now in
    let s = c.in-Some.section in
    let n : ℕ = length c.body.result.now in
    let h : HeadRead f p due s = subst (Headed f p due) c.in-Some.is c.in_ok-section.ensures in
    let long : p + 3 + n ≡ p + 3 + length (body_of s) = ap (λ k. p + 3 + length k) c.body.ensures in
    elim c.match-section.branch [
      | in-Table+in_ok-body-in-Table w ↦
          let ok = w.in_ok-body-in-Table.ensures in
          let us = tasks w.body-in-Table.new.pieces in
          let taken = rows_taken f p due s h ts us w.body-in-Table.new.self.cursor.pos (ap letter_of w.in-Table.is) (ok.read.0 ∙ long) (subst (λ k. RowsTaken f (p + 3) (p + 3 + length k) us) c.body.ensures ok.read.1) in
          rw (w.self-is, w.table-is) (record { file = ok.file; read = (taken, ok.noted ∙ sym (ap (noted_after c.args.self.now.noted) w.in-Table.is)) })
      | in-Calls+in_ok-body-in-Calls w ↦
          let ok = w.in_ok-body-in-Calls.ensures in
          let taken = calls_taken f p due s h ts w.body-in-Calls.new.self.cursor.pos (ap letter_of w.in-Calls.is) (ok.read.0 ∙ long) (subst (λ k. CallsWhole f (p + 3) (p + 3 + length k)) c.body.ensures ok.read.1) in
          rw (w.self-is, w.table-is) (record { file = ok.file; read = (taken, ok.noted ∙ sym (ap (noted_after c.args.self.now.noted) w.in-Calls.is)) })
      | in-Note w ↦
          let taken = note_taken f p due s h ts (p + 3 + n) (ap letter_of w.in-Note.is) long in
          rw (w.self-is, w.table-is) (record { file = refl; read = (taken, sym (ap (noted_after c.args.self.now.noted) w.in-Note.is)) })
    ]
