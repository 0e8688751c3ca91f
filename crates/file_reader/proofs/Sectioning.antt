-- A section, by its head and what its body was read as.
use Rattle.std.proofs.Common.{◌≡◌, ℕ, ◌+◌, ◌≤◌, true, eqb, List, [], ◌∷◌, length, take, drop, Some, sym, refl, ap, ◌∙◌, subst, ⊎_elim, arith}
use Rattle.std.specs.List.{flat_map}
use Rattle.std.proofs.lemmas.Bool.{cases_eq, eq-eqb, ne_eqb, cond-true, cond-false, true≢false}
use Rattle.plan.specs.Rows.{Task}
use Rattle.file_parts.specs.declared.call.Call.{Call}
use Rattle.file_parts.specs.declared.due.Due.{Due}
use Rattle.file_parts.specs.declared.due.Due.TheVariants.{Table, Calls, Notes}
use Rattle.file_parts.specs.declared.fault.Fault.{Fault}
use Rattle.file_parts.specs.declared.fault.Fault.TheVariants.{ShortFile}
use Rattle.file_parts.specs.declared.section.Section.{Section}
use Rattle.file_reader.specs.Bytes.{two, Stands}
use Rattle.file_reader.specs.Grammar.{Part, table_part, calls_part, note_part, section, row_bytes, call_bytes, part_bytes, Follows}
use Rattle.file_reader.specs.Faults.{its_turn, section_fault}
use Rattle.file_parts.specs.Sections.{letter_of, body_of}
use Rattle.file_reader.specs.Steps.{RowsTaken, rows_after, SectionTaken, SectionFaulty}
use Rattle.file_reader.specs.Readers.{no_table, head_fault, HeadRead, RowsBroken, CallsBroken, CallsWhole}
use Rattle.file_reader.proofs.Spelling.{append_stands}

-- what is due where a letter has its turn
pub table_due : (due : Due) → its_turn due 84 ≡ true → due ≡ Table
table_due Table t = refl
table_due Calls t = absurd (true≢false (sym t))
table_due Notes t = absurd (true≢false (sym t))

pub calls_due : (due : Due) → its_turn due 67 ≡ true → due ≡ Calls
calls_due Table t = absurd (true≢false (sym t))
calls_due Calls t = refl
calls_due Notes t = absurd (true≢false (sym t))

pub note_due : (due : Due) → its_turn due 78 ≡ true → due ≡ Table → ⊥
note_due due t e = true≢false (sym (subst (λ d. its_turn d 78 ≡ true) e t))

-- a head at fault, or the end of a file without a table
ended : (f : List ℕ) (p : ℕ) (due : Due) (e : Fault) → p ≡ length f → no_table due (length f) ≡ Some e → SectionFaulty f p due e
ended f p Table e h n =
    let same : ShortFile (length f) ≡ e = cc in
    subst (SectionFaulty f p Table) same (SectionFaulty.no_table h refl)
ended f p Calls e h n = absurd (let z : ◌≡◌ {A = ℕ} 0 1 = cc in omega (arith, z))
ended f p Notes e h n = absurd (let z : ◌≡◌ {A = ℕ} 0 1 = cc in omega (arith, z))

pub head_faulty : (f : List ℕ) (p : ℕ) (due : Due) (e : Fault) → p ≤ length f → head_fault f p due ≡ Some e → SectionFaulty f p due e
head_faulty f p due e h x = ⊎_elim
    (λ (s : p ≡ length f). ended f p due e s (sym (cond-true (eqb p (length f)) (no_table due (length f)) (section_fault f p due) (eq-eqb p (length f) s)) ∙ x))
    (λ (s : p ≡ length f → ⊥). SectionFaulty.in_head e (omega (arith, s, h)) (sym (cond-false (eqb p (length f)) (no_table due (length f)) (section_fault f p due) (ne_eqb p (length f) s)) ∙ x))
    (cases_eq p (length f))

module _ (f : List ℕ) (p : ℕ) (due : Due) (s : Section) (h : HeadRead f p due s) where
  pub rows_faulty : (e : Fault) → letter_of s ≡ 84 → RowsBroken f (p + 3) (p + 3 + length (body_of s)) e → SectionFaulty f p due e
  rows_faulty e t b = SectionFaulty.in_row e (length (body_of s)) b.at b.tasks (table_due due (ap (its_turn due) (sym t) ∙ h.turn)) (subst (λ l. Stands f p (l ∷ two (length (body_of s)))) t h.stands) h.inside b.before b.inside b.fault

  pub calls_faulty : (e : Fault) → letter_of s ≡ 67 → CallsBroken f (p + 3) (p + 3 + length (body_of s)) e → SectionFaulty f p due e
  calls_faulty e t b = SectionFaulty.in_call e (length (body_of s)) b.at b.calls (calls_due due (ap (its_turn due) (sym t) ∙ h.turn)) (subst (λ l. Stands f p (l ∷ two (length (body_of s)))) t h.stands) h.inside b.before b.inside b.fault

  -- head and body stand together
  whole : Stands f p (section (letter_of s) (body_of s))
  whole = append_stands f p (letter_of s ∷ two (length (body_of s))) (body_of s) h.stands h.body

  -- the body is what was read from it
  body_is : (xs : List ℕ) → Stands f (p + 3) xs → p + 3 + length (body_of s) ≡ p + 3 + length xs → body_of s ≡ xs
  body_is xs t e = sym h.body ∙ ap (λ n. take n (drop (p + 3) f)) (let m : length (body_of s) ≡ length xs = omega (arith, e) in m) ∙ t

  taken : (x : Part) (due' : Due) (ts : List Task) (us : List Task) → section (letter_of s) (body_of s) ≡ part_bytes x → Follows due x due' → us ≡ rows_after ts x → (q : ℕ) → q ≡ p + 3 + length (body_of s) → SectionTaken f p due ts q due' us s
  taken x due' ts us e w r q l =
      let long : length (part_bytes x) ≡ 3 + length (body_of s) = sym (ap length e) ∙ section_length (letter_of s) (body_of s) in
      record {
        part = x;
        stands = subst (Stands f p) e whole;
        after = omega (arith, l, long);
        within = omega (arith, l, h.inside);
        follows = w;
        rows = r;
        told = e;
        placed = h.placed;
      }
    where
      section_length : (l : ℕ) (b : List ℕ) → length (section l b) ≡ 3 + length b
      section_length l b = omega arith

  pub rows_taken : (ts us : List Task) (q : ℕ) → letter_of s ≡ 84 → q ≡ p + 3 + length (body_of s) → RowsTaken f (p + 3) (p + 3 + length (body_of s)) us → SectionTaken f p due ts q Calls us s
  rows_taken ts us q t l r =
      let b = body_is (flat_map row_bytes us) r.stand r.after in
      taken (table_part us) Calls ts us (ap (λ n. section n (body_of s)) t ∙ ap (section 84) b) (subst (λ d. Follows d (table_part us) Calls) (sym (table_due due (ap (its_turn due) (sym t) ∙ h.turn))) (Follows.rows us r.taken)) refl q l

  pub calls_taken : (ts : List Task) (q : ℕ) → letter_of s ≡ 67 → q ≡ p + 3 + length (body_of s) → CallsWhole f (p + 3) (p + 3 + length (body_of s)) → SectionTaken f p due ts q Notes ts s
  calls_taken ts q t l w =
      let cs = w.calls in
      let b = body_is (flat_map call_bytes cs) w.taken.stand w.taken.after in
      taken (calls_part cs) Notes ts ts (ap (λ k. section k (body_of s)) t ∙ ap (section 67) b) (subst (λ d. Follows d (calls_part cs) Notes) (sym (calls_due due (ap (its_turn due) (sym t) ∙ h.turn))) (Follows.calls cs w.taken.good (some cs (subst (λ k. 1 ≤ length k) b (h.some t))))) refl q l
    where
      some : (cs : List Call) → 1 ≤ length (flat_map call_bytes cs) → 1 ≤ length cs
      some [] h = absurd (omega (arith, h))
      some (c ∷ cs) h = omega arith

  pub note_taken : (ts : List Task) (q : ℕ) → letter_of s ≡ 78 → q ≡ p + 3 + length (body_of s) → SectionTaken f p due ts q due ts s
  note_taken ts q t l = taken (note_part (body_of s)) due ts ts (ap (λ n. section n (body_of s)) t) (Follows.note due (body_of s) (note_due due (ap (its_turn due) (sym t) ∙ h.turn))) refl q l
