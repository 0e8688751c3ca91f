-- What is written is read back, and what was read is written back.
use Rattle.std.proofs.Common.{◌≡◌, ℕ, ◌+◌, ◌≤◌, true, false, List, [], ◌∷◌, ◌++◌, length, sym, refl, ap, ◌∙◌, arith}
use Rattle.std.specs.List.{flat_map}
use Rattle.std.proofs.lemmas.List.{append_assoc, append-nil, length-append}
use Rattle.plan.specs.Rows.{Task}
use Rattle.file_parts.specs.declared.call.Call.{Call}
use Rattle.file_parts.specs.declared.due.Due.TheVariants.{Table, Calls, Notes}
use Rattle.file_parts.specs.declared.settings.Settings.{Settings}
use Rattle.file_reader.specs.Grammar.{Part, table_part, calls_part, note_part, Taken, GoodCalls, Follows, Parts, layout_letter, header, section, row_bytes, call_bytes, part_bytes, tasks_in, calls_in, noted}
use Rattle.file_reader.specs.Meaning.{Holds, Means, acceptance, calls_section, written}
use Rattle.file_reader.proofs.InTurn.{Course, due_after, parts_course}
use Rattle.file_reader.proofs.Delimited.{calls_some}

-- calls are written as a section only where there are any
calls_spelled : (bytes : List ℕ) → 1 ≤ length bytes → section 67 bytes ≡ calls_section bytes
calls_spelled [] l = absurd (omega arith)
calls_spelled (b ∷ bytes) l = refl

-- sections without notes are a table and, where there are calls, these
bytes_kept : (ps : List Part) → Course Table ps → (due_after Table ps ≡ Table → ⊥) → noted ps ≡ false → flat_map part_bytes ps ≡ section 84 (flat_map row_bytes (tasks_in ps)) ++ calls_section (flat_map call_bytes (calls_in ps))
bytes_kept [] a t n = absurd (t refl)
bytes_kept (table_part ts ∷ []) a t n = ap (λ us. section 84 (flat_map row_bytes us) ++ []) (sym (append-nil ts))
bytes_kept (table_part ts ∷ table_part us ∷ ps) a t n = absurd a.1.0
bytes_kept (table_part ts ∷ calls_part cs ∷ []) a t n =
    ap (λ us. section 84 (flat_map row_bytes us) ++ (section 67 (flat_map call_bytes cs) ++ [])) (sym (append-nil ts))
    ∙ ap (λ l. section 84 (flat_map row_bytes (ts ++ [])) ++ l) (append-nil (section 67 (flat_map call_bytes cs)) ∙ calls_spelled (flat_map call_bytes cs) (calls_some cs a.1.0.1) ∙ ap (λ ds. calls_section (flat_map call_bytes ds)) (sym (append-nil cs)))
bytes_kept (table_part ts ∷ calls_part cs ∷ table_part us ∷ ps) a t n = absurd a.1.1.0
bytes_kept (table_part ts ∷ calls_part cs ∷ calls_part ds ∷ ps) a t n = absurd a.1.1.0
bytes_kept (table_part ts ∷ calls_part cs ∷ note_part bytes ∷ ps) a t n = absurd (let z : ◌≡◌ {A = ℕ} 0 1 = cc in omega arith)
bytes_kept (table_part ts ∷ note_part bytes ∷ ps) a t n = absurd (let z : ◌≡◌ {A = ℕ} 0 1 = cc in omega arith)
bytes_kept (calls_part cs ∷ ps) a t n = absurd a.0
bytes_kept (note_part bytes ∷ ps) a t n = absurd a.0

-- a file without notes is the one that is written for what it holds
pub written_back : (f : List ℕ) (h : Settings) (ts : List Task) (calls : List ℕ) → Holds f h ts calls false → f ≡ written h ts calls
written_back f h ts calls k =
    let w = k.whole in
    let course = parts_course k.parts w.due w.parts in
    w.spelled
    ∙ ap (λ l. header h ++ l) (bytes_kept k.parts course.0 (λ e. w.tabled (course.1 ∙ e)) k.noting)
    ∙ ap (λ us. header h ++ (section 84 (flat_map row_bytes us) ++ calls_section (flat_map call_bytes (calls_in k.parts)))) k.tasks
    ∙ ap (λ bytes. header h ++ (section 84 (flat_map row_bytes ts) ++ calls_section bytes)) k.called
    ∙ sym (append_assoc (header h) (section 84 (flat_map row_bytes ts)) (calls_section calls))

-- after a table no table is due
calls_due : Calls ≡ Table → ⊥
calls_due e = let z : ◌≡◌ {A = ℕ} 0 1 = cc in omega arith

notes_due : Notes ≡ Table → ⊥
notes_due e = let z : ◌≡◌ {A = ℕ} 0 1 = cc in omega arith

-- the file that is written means what it was written for
pub reads_back : (h : Settings) (ts : List Task) (cs : List Call) → layout_letter h.letter ≡ true → Taken ts → GoodCalls cs → Means (written h ts (flat_map call_bytes cs)) (acceptance h ts (flat_map call_bytes cs) false)
reads_back h ts cs good taken counted = by cs counted
  where
    tabled : Parts (table_part ts ∷ []) Calls
    tabled = Parts.one_more [] (table_part ts) Table Calls Parts.none (Follows.rows ts taken)

    by : (cs : List Call) → GoodCalls cs → Holds (written h ts (flat_map call_bytes cs)) h ts (flat_map call_bytes cs) false
    by [] g = record {
      parts = table_part ts ∷ [];
      whole = record {
        spelled = append_assoc (header h) (section 84 (flat_map row_bytes ts)) [];
        letter = good;
        due = Calls;
        parts = tabled;
        tabled = calls_due;
      };
      tasks = append-nil ts;
      called = refl;
      noting = refl;
    }
    by (c ∷ cs) g = record {
      parts = table_part ts ∷ calls_part (c ∷ cs) ∷ [];
      whole = record {
        spelled =
            ap (λ l. header h ++ section 84 (flat_map row_bytes ts) ++ l) (sym (calls_spelled (flat_map call_bytes (c ∷ cs)) (calls_some (c ∷ cs) (omega arith))) ∙ sym (append-nil (section 67 (flat_map call_bytes (c ∷ cs)))))
            ∙ append_assoc (header h) (section 84 (flat_map row_bytes ts)) (section 67 (flat_map call_bytes (c ∷ cs)) ++ []);
        letter = good;
        due = Notes;
        parts = Parts.one_more (table_part ts ∷ []) (calls_part (c ∷ cs)) Calls Notes tabled (Follows.calls (c ∷ cs) g (omega arith));
        tabled = notes_due;
      };
      tasks = append-nil ts;
      called = ap (flat_map call_bytes) (append-nil (c ∷ cs));
      noting = refl;
    }

-- how long the file is
pub calls_section_length : (bytes : List ℕ) → 1 ≤ length bytes → length (calls_section bytes) ≡ 3 + length bytes
calls_section_length bytes l = ap length (sym (calls_spelled bytes l)) ∙ omega arith

pub written_length : (h : Settings) (ts : List Task) (calls : List ℕ) → length (written h ts calls) ≡ 11 + length (flat_map row_bytes ts) + length (calls_section calls)
written_length h ts calls = length-append (header h ++ section 84 (flat_map row_bytes ts)) (calls_section calls) ∙ omega arith
