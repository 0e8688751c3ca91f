-- A file that is written piece by piece.
use Rattle.std.proofs.Common.{◌≡◌, ℕ, ◌+◌, ◌≤◌, true, false, cond, eqb, List, [], ◌∷◌, ◌++◌, length, drop, Ok, Err, Result, sym, refl, ap, ◌∙◌, subst, arith}
use Rattle.std.specs.List.{flat_map}
use Rattle.std.proofs.lemmas.List.{take_all, append-nil}
use Rattle.std.proofs.lemmas.Bool.{true≢false, ne_eqb, cond-false}
use Rattle.plan.specs.Rows.{Task}
use Rattle.file_parts.specs.declared.settings.Settings.{Settings}
use Rattle.planfile.specs.Writing.{IsNotWritten, WrittenOrNot, SameBytes, ComesBack}
use Rattle.file_parts.specs.declared.due.Due.TheVariants.{Table}
use Rattle.file_parts.specs.declared.fault.Fault.{Fault}
use Rattle.file_parts.specs.declared.not_written.NotWritten.{NotWritten}
use Rattle.file_reader.proofs.Furthest.{calls_furthest, joined_length}
use Rattle.file_reader.proofs.InTurn.{Course, parts_course}
use Rattle.areas.specs.declared.pen.Pen.{Pen}
use Rattle.areas.specs.Pens.{Puts}
use Rattle.file_reader.specs.Bytes.{two}
use Rattle.file_reader.specs.Grammar.{Part, table_part, calls_part, note_part, Taken, GoodCalls, layout_letter, header, section, call_bytes, calls_in, noted}
use Rattle.file_reader.specs.Readers.{CallsWhole, CallsBroken}
use Rattle.file_reader.specs.Meaning.{acceptance, Holds, Means, calls_section, written}
use Rattle.file_reader.proofs.GoodRows.{rows_short}
use Rattle.file_reader.proofs.RoundTrip.{reads_back, written_back, written_length}
use Rattle.areas.proofs.Putting.{puts_then}

pub same_bytes : (h : Settings) (ts : List Task) (calls : List ℕ) → SameBytes h ts calls
same_bytes h ts calls f m = written_back f h ts calls m

-- the header and the section of the table
pub tabled : (p p₁ p₂ p₃ : Pen) (h : Settings) (rows : List ℕ) (n : ℕ) → n ≡ length rows → Puts p (header h) p₁ → Puts p₁ (84 ∷ two n) p₂ → Puts p₂ rows p₃ → Puts p (header h ++ section 84 rows) p₃
tabled p p₁ p₂ p₃ h rows n e x y z = puts_then x (puts_then (subst (λ k. Puts p₁ (84 ∷ two k) p₂) e y) z)

-- no calls, no section
pub no_section : (calls : List ℕ) → length calls ≡ 0 → calls_section calls ≡ []
no_section [] e = refl
no_section (c ∷ cs) e = absurd (omega (arith, e))

pub some_section : (calls : List ℕ) → eqb (length calls) 0 ≡ false → calls_section calls ≡ section 67 calls
some_section [] e = absurd (true≢false e)
some_section (c ∷ cs) e = refl

pub section_length : (calls : List ℕ) → length (calls_section calls) ≡ cond (eqb (length calls) 0) 0 (3 + length calls)
section_length [] = refl
section_length (c ∷ cs) =
    let some : eqb (length (c ∷ cs)) 0 ≡ false = ne_eqb (length (c ∷ cs)) 0 (λ e. omega (arith, e)) in
    let long : length (calls_section (c ∷ cs)) ≡ 3 + length (c ∷ cs) = omega arith in
    long ∙ sym (cond-false (eqb (length (c ∷ cs)) 0) 0 (3 + length (c ∷ cs)) some)

-- no file is long: 11 bytes, 1600 of rows, 3, and the calls
pub written_short : (h : Settings) (ts : List Task) (calls : List ℕ) → Taken ts → length calls ≤ 65535 → length (written h ts calls) ≤ 67149
written_short h ts [] t l = omega (arith, written_length h ts [], rows_short ts t)
written_short h ts (c ∷ cs) t l = omega (arith, l, written_length h ts (c ∷ cs), rows_short ts t)

-- whole calls are written so that they read back
pub whole_read : (h : Settings) (ts : List Task) (calls : List ℕ) → layout_letter h.letter ≡ true → Taken ts → CallsWhole calls 0 (length calls) → Means (written h ts calls) (acceptance h ts calls false)
whole_read h ts calls l t w =
    let cs = w.calls in
    let spelled : flat_map call_bytes cs ≡ calls = sym w.taken.stand ∙ take_all (length (flat_map call_bytes cs)) calls (omega (arith, w.taken.after)) in
    subst (λ b. Means (written h ts b) (acceptance h ts b false)) spelled (reads_back h ts cs l t w.taken.good)

-- the calls of sections without notes are good ones
calls_good : (ps : List Part) → Course Table ps → noted ps ≡ false → GoodCalls (calls_in ps)
calls_good [] a n = GoodCalls.none
calls_good (table_part ts ∷ []) a n = GoodCalls.none
calls_good (table_part ts ∷ table_part us ∷ ps) a n = absurd a.1.0
calls_good (table_part ts ∷ calls_part cs ∷ []) a n = subst GoodCalls (sym (append-nil cs)) a.1.0.0
calls_good (table_part ts ∷ calls_part cs ∷ table_part us ∷ ps) a n = absurd a.1.1.0
calls_good (table_part ts ∷ calls_part cs ∷ calls_part ds ∷ ps) a n = absurd a.1.1.0
calls_good (table_part ts ∷ calls_part cs ∷ note_part bytes ∷ ps) a n = absurd (true≢false n)
calls_good (table_part ts ∷ note_part bytes ∷ ps) a n = absurd (true≢false n)
calls_good (calls_part cs ∷ ps) a n = absurd a.0
calls_good (note_part bytes ∷ ps) a n = absurd a.0

-- calls that a file holds have no fault
unbroken : (f : List ℕ) (h : Settings) (ts : List Task) (calls : List ℕ) (e : Fault) → Holds f h ts calls false → CallsBroken calls 0 (length calls) e → ⊥
unbroken f h ts calls e k b =
    let ds = calls_in k.parts in
    let good = calls_good k.parts (parts_course k.parts k.whole.due k.whole.parts).0 k.noting in
    let on = calls_furthest calls 0 b.at (length calls) e b.calls b.before b.fault ds [] (sym k.called ∙ sym (append-nil (flat_map call_bytes ds))) (omega (arith, ap length k.called)) good in
    omega (arith, b.inside, b.before.after, ap length k.called, joined_length call_bytes b.calls ds on.0 on.1)

-- so a file without notes comes back, whatever the area held
pub comes_back : (h : Settings) (ts : List Task) (calls area area' : List ℕ) (r : Result ℕ NotWritten) → WrittenOrNot h ts calls area area' r → ComesBack h ts calls area area' r
comes_back h ts calls area area' (Ok n) w f m short room =
    let same = written_back f h ts calls m in
    let long : n ≡ length f = w.long ∙ ap length (sym same) in
    (ap Ok long, w.bytes ∙ ap (λ b. b ++ drop n area) (sym same) ∙ ap (λ k. f ++ drop k area) long)
comes_back h ts calls area area' (Err _) (IsNotWritten.letter bad, same) f m short room = absurd (true≢false (sym m.whole.letter ∙ bad))
comes_back h ts calls area area' (Err _) (IsNotWritten.calls_at_fault e l broken, same) f m short room = absurd (unbroken f h ts calls e m broken)
comes_back h ts calls area area' (Err _) (IsNotWritten.long_calls l whole long, same) f m short room = absurd (omega (arith, long, short))
comes_back h ts calls area area' (Err _) (IsNotWritten.short_area l whole s few, same) f m short room = absurd (omega (arith, few, room, ap length (written_back f h ts calls m)))
