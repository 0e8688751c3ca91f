-- A file, section by section: what has been read of it so far.
use Rattle.std.proofs.Common.{◌≡◌, ℕ, min, Bool, true, false, List, [], ◌∷◌, ◌++◌, length, take, drop, Some, None, sym, refl, ap, ◌∙◌, subst, arith, Bor}
use Rattle.std.specs.List.{flat_map}
use Rattle.std.proofs.lemmas.List.{flat_map_more, append-nil, append_assoc, take_all, length-take}
use Rattle.plan.specs.Rows.{Task}
use Rattle.file_parts.specs.declared.due.Due.{Due}
use Rattle.file_parts.specs.declared.due.Due.TheVariants.{Table, Calls, Notes}
use Rattle.file_parts.specs.declared.fault.Fault.{Fault}
use Rattle.file_parts.specs.declared.settings.Settings.{Settings}
use Rattle.file_parts.specs.declared.section.Section.{Section}
use Rattle.file_parts.specs.declared.section.Section.TheVariants as kind
use Rattle.file_reader.specs.Bytes.{Stands}
use Rattle.file_reader.specs.Grammar.{Part, table_part, calls_part, note_part, Parts, Follows, layout_letter, header, section, call_bytes, part_bytes, tasks_in, calls_in, noted}
use Rattle.file_parts.specs.Sections.{letter_of, body_of}
use Rattle.file_reader.specs.Steps.{rows_after, SectionTaken, SectionFaulty}
use Rattle.file_reader.specs.declared.reader.Reader.{Reader}
use Rattle.file_reader.specs.Readers.{noted_after, Came}
use Rattle.file_reader.specs.Meaning.{Begun, Holds, FirstFault}
use Rattle.file_reader.proofs.Spelling.{take_add}

-- the file up to p: settings, tasks, the bytes of the calls, and whether there were notes
pub record Progress (f : List ℕ) (h : Settings) (p : ℕ) (due : Due) (ts : List Task) (calls : List ℕ) (notes : Bool) : Type 0 where
  pub parts : List Part
  pub begun : Begun f p h parts due
  pub tasks : tasks_in parts ≡ ts
  pub called : flat_map call_bytes (calls_in parts) ≡ calls
  pub noting : noted parts ≡ notes

-- behind a header
pub started : (f : List ℕ) (h : Settings) → Stands f 0 (header h) → layout_letter h.letter ≡ true → Progress f h 8 Table [] [] false
started f h s l = record {
  parts = [];
  begun = record { within = omega (arith, length-take 8 f, ap length s); spelled = s ∙ sym (append-nil (header h)); letter = l; parts = Parts.none };
  tasks = refl;
  called = refl;
  noting = refl;
}

pub started_at : (f : List ℕ) (h : Settings) (p : ℕ) (due : Due) (ts : List Task) (n : Bool) → Stands f 0 (header h) → layout_letter h.letter ≡ true → p ≡ min 8 (length f) → due ≡ Table → ts ≡ [] → n ≡ false → Progress f h p due ts [] n
started_at f h p due ts n s l a d t e =
    let at : p ≡ 8 = a ∙ sym (length-take 8 f) ∙ ap length s in
    subst (λ k. Progress f h k due ts [] n) (sym at) (subst (λ k. Progress f h 8 k ts [] n) (sym d) (subst (λ k. Progress f h 8 Table k [] n) (sym t) (subst (λ k. Progress f h 8 Table [] [] k) (sym e) (started f h s l))))

-- one more part
tasks_push : (ps : List Part) (x : Part) → tasks_in (ps ++ x ∷ []) ≡ tasks_in ps ++ tasks_in (x ∷ [])
tasks_push [] x = refl
tasks_push (table_part us ∷ ps) x = ap (λ l. us ++ l) (tasks_push ps x) ∙ sym (append_assoc us (tasks_in ps) (tasks_in (x ∷ [])))
tasks_push (calls_part cs ∷ ps) x = tasks_push ps x
tasks_push (note_part b ∷ ps) x = tasks_push ps x

calls_push : (ps : List Part) (x : Part) → calls_in (ps ++ x ∷ []) ≡ calls_in ps ++ calls_in (x ∷ [])
calls_push [] x = refl
calls_push (table_part us ∷ ps) x = calls_push ps x
calls_push (calls_part cs ∷ ps) x = ap (λ l. cs ++ l) (calls_push ps x) ∙ sym (append_assoc cs (calls_in ps) (calls_in (x ∷ [])))
calls_push (note_part b ∷ ps) x = calls_push ps x

quiet_push : (ps : List Part) (x : Part) → noted (x ∷ []) ≡ false → noted (ps ++ x ∷ []) ≡ noted ps
quiet_push [] x e = e
quiet_push (table_part us ∷ ps) x e = quiet_push ps x e
quiet_push (calls_part cs ∷ ps) x e = quiet_push ps x e
quiet_push (note_part b ∷ ps) x e = refl

note_push : (ps : List Part) (b : List ℕ) → noted (ps ++ note_part b ∷ []) ≡ true
note_push [] b = refl
note_push (table_part us ∷ ps) b = note_push ps b
note_push (calls_part cs ∷ ps) b = note_push ps b
note_push (note_part c ∷ ps) b = refl

-- a table is due only where nothing was read
pub table_first : (ps : List Part) (due : Due) → Parts ps due → due ≡ Table → ps ≡ []
table_first ps due Parts.none e = refl
table_first ps due (Parts.one_more qs x d d' r (Follows.rows ts t)) e = absurd (let z : ◌≡◌ {A = ℕ} 0 1 = cc in omega (arith, z))
table_first ps due (Parts.one_more qs x d d' r (Follows.calls cs g n)) e = absurd (let z : ◌≡◌ {A = ℕ} 0 1 = cc in omega (arith, z))
table_first ps due (Parts.one_more qs x d d' r (Follows.note d₁ b n)) e = absurd (n e)

-- and there are no calls before they were read
pub calls_last : (ps : List Part) (due : Due) → Parts ps due → (due ≡ Notes → ⊥) → calls_in ps ≡ []
calls_last ps due Parts.none n = refl
calls_last ps due (Parts.one_more qs x d d' r (Follows.rows ts t)) n = calls_push qs (table_part ts) ∙ append-nil (calls_in qs) ∙ calls_last qs Table r (λ e. let z : ◌≡◌ {A = ℕ} 0 1 = cc in omega (arith, z))
calls_last ps due (Parts.one_more qs x d d' r (Follows.calls cs g m)) n = absurd (n refl)
calls_last ps due (Parts.one_more qs x d d' r (Follows.note d₁ b m)) n = calls_push qs (note_part b) ∙ append-nil (calls_in qs) ∙ calls_last qs d₁ r n

-- the bytes of the calls, and whether there are notes, after one more part
abbrev calls_after : List ℕ → Part → List ℕ
calls_after bytes (table_part ts) = bytes
calls_after bytes (calls_part cs) = flat_map call_bytes cs
calls_after bytes (note_part b) = bytes

abbrev note_after : Bool → Part → Bool
note_after n (table_part ts) = n
note_after n (calls_part cs) = n
note_after n (note_part b) = true

calls_grown : (ps : List Part) (due due' : Due) (x : Part) → Parts ps due → Follows due x due' → flat_map call_bytes (calls_in (ps ++ x ∷ [])) ≡ calls_after (flat_map call_bytes (calls_in ps)) x
calls_grown ps due due' x r (Follows.rows ts t) = ap (flat_map call_bytes) (calls_push ps (table_part ts) ∙ append-nil (calls_in ps))
calls_grown ps due due' x r (Follows.calls cs g n) = ap (flat_map call_bytes) (calls_push ps (calls_part cs) ∙ ap (λ l. l ++ (cs ++ [])) (calls_last ps Calls r (λ e. let z : ◌≡◌ {A = ℕ} 0 1 = cc in omega (arith, z))) ∙ append-nil cs)
calls_grown ps due due' x r (Follows.note d b n) = ap (flat_map call_bytes) (calls_push ps (note_part b) ∙ append-nil (calls_in ps))

tasks_grown : (ps : List Part) (due due' : Due) (x : Part) → Parts ps due → Follows due x due' → tasks_in (ps ++ x ∷ []) ≡ rows_after (tasks_in ps) x
tasks_grown ps due due' x r (Follows.rows ts t) = tasks_push ps (table_part ts) ∙ ap (λ l. tasks_in l ++ (ts ++ [])) (table_first ps Table r refl) ∙ append-nil ts
tasks_grown ps due due' x r (Follows.calls cs g n) = tasks_push ps (calls_part cs) ∙ append-nil (tasks_in ps)
tasks_grown ps due due' x r (Follows.note d b n) = tasks_push ps (note_part b) ∙ append-nil (tasks_in ps)

notes_grown : (ps : List Part) (x : Part) → noted (ps ++ x ∷ []) ≡ note_after (noted ps) x
notes_grown ps (table_part ts) = quiet_push ps (table_part ts) refl
notes_grown ps (calls_part cs) = quiet_push ps (calls_part cs) refl
notes_grown ps (note_part b) = note_push ps b

-- a section that comes out says the same
abbrev first : List ℕ → ℕ
first [] = 0
first (b ∷ bs) = b

body : (l m : ℕ) (b c : List ℕ) → section l b ≡ section m c → b ≡ c
body l m b c e = ap (drop 3) e

abbrev pub calls_now : List ℕ → Section → List ℕ
calls_now bytes (kind.Table b at) = bytes
calls_now bytes (kind.Calls b at) = b.now
calls_now bytes (kind.Note b at) = bytes

calls_told : (s : Section) (x : Part) (bytes : List ℕ) → section (letter_of s) (body_of s) ≡ part_bytes x → calls_now bytes s ≡ calls_after bytes x
calls_told (kind.Table b at) (table_part ts) bytes e = refl
calls_told (kind.Table b at) (calls_part cs) bytes e = absurd (let z : ◌≡◌ {A = ℕ} 84 67 = ap first e in omega (arith, z))
calls_told (kind.Table b at) (note_part c) bytes e = refl
calls_told (kind.Calls b at) (table_part ts) bytes e = absurd (let z : ◌≡◌ {A = ℕ} 67 84 = ap first e in omega (arith, z))
calls_told (kind.Calls b at) (calls_part cs) bytes e = body 67 67 b.now (flat_map call_bytes cs) e
calls_told (kind.Calls b at) (note_part c) bytes e = absurd (let z : ◌≡◌ {A = ℕ} 67 78 = ap first e in omega (arith, z))
calls_told (kind.Note b at) (table_part ts) bytes e = refl
calls_told (kind.Note b at) (calls_part cs) bytes e = absurd (let z : ◌≡◌ {A = ℕ} 78 67 = ap first e in omega (arith, z))
calls_told (kind.Note b at) (note_part c) bytes e = refl

notes_told : (s : Section) (x : Part) (n : Bool) → section (letter_of s) (body_of s) ≡ part_bytes x → noted_after n s ≡ note_after n x
notes_told (kind.Table b at) (table_part ts) n e = refl
notes_told (kind.Table b at) (calls_part cs) n e = refl
notes_told (kind.Table b at) (note_part c) n e = absurd (let z : ◌≡◌ {A = ℕ} 84 78 = ap first e in omega (arith, z))
notes_told (kind.Calls b at) (table_part ts) n e = refl
notes_told (kind.Calls b at) (calls_part cs) n e = refl
notes_told (kind.Calls b at) (note_part c) n e = absurd (let z : ◌≡◌ {A = ℕ} 67 78 = ap first e in omega (arith, z))
notes_told (kind.Note b at) (table_part ts) n e = absurd (let z : ◌≡◌ {A = ℕ} 78 84 = ap first e in omega (arith, z))
notes_told (kind.Note b at) (calls_part cs) n e = absurd (let z : ◌≡◌ {A = ℕ} 78 67 = ap first e in omega (arith, z))
notes_told (kind.Note b at) (note_part c) n e = refl

-- behind one more section
pub progressed : (f : List ℕ) (h : Settings) (p q : ℕ) (due due' : Due) (ts us : List Task) (calls : List ℕ) (n : Bool) (s : Section) → Progress f h p due ts calls n → SectionTaken f p due ts q due' us s → Progress f h q due' us (calls_now calls s) (noted_after n s)
progressed f h p q due due' ts us calls n s g t =
    let ps = g.parts in
    let x = t.part in
    let r = g.begun.parts in
    record {
      parts = ps ++ x ∷ [];
      begun = record {
        within = t.within;
        spelled = ap (λ k. take k f) t.after ∙ take_add p (length (part_bytes x)) f ∙ ap (λ l. l ++ take (length (part_bytes x)) (drop p f)) g.begun.spelled ∙ ap (λ l. (header h ++ flat_map part_bytes ps) ++ l) t.stands ∙ flat_map_more part_bytes (header h) ps x;
        letter = g.begun.letter;
        parts = Parts.one_more ps x due due' r t.follows;
      };
      tasks = tasks_grown ps due due' x r t.follows ∙ ap (λ l. rows_after l x) g.tasks ∙ sym t.rows;
      called = calls_grown ps due due' x r t.follows ∙ ap (λ l. calls_after l x) g.called ∙ sym (calls_told s x calls t.told);
      noting = notes_grown ps x ∙ ap (λ b. note_after b x) g.noting ∙ sym (notes_told s x n t.told);
    }

-- at the end
pub finished : (f : List ℕ) (h : Settings) (p : ℕ) (due : Due) (ts : List Task) (calls : List ℕ) (n : Bool) → Progress f h p due ts calls n → p ≡ length f → (due ≡ Table → ⊥) → Holds f h ts calls n
finished f h p due ts calls n g e d = record {
  parts = g.parts;
  whole = record { spelled = sym (take_all p f (omega (arith, e))) ∙ g.begun.spelled; letter = g.begun.letter; due = due; parts = g.begun.parts; tabled = d };
  tasks = g.tasks;
  called = g.called;
  noting = g.noting;
}

pub faulted : (f : List ℕ) (h : Settings) (p : ℕ) (due : Due) (ts : List Task) (calls : List ℕ) (n : Bool) (e : Fault) → Progress f h p due ts calls n → SectionFaulty f p due e → FirstFault f e
faulted f h p due ts calls n e g x = FirstFault.in_section e p h g.parts due g.begun x

-- the same of a reader
pub reader_progressed : (f : List ℕ) (h : Settings) (d d' : Reader) (ts us : List Task) (calls : List ℕ) (s : Section) → d.file.now ≡ f → Progress f h d.cursor.pos d.due ts calls d.noted → Came d ts d' us (Some s) → Progress f h d'.cursor.pos d'.due us (calls_now calls s) d'.noted
reader_progressed f h d d' ts us calls s e g c =
    subst (Progress f h d'.cursor.pos d'.due us (calls_now calls s)) (sym c.1)
    (progressed f h d.cursor.pos d'.cursor.pos d.due d'.due ts us calls d.noted s g (subst (λ k. SectionTaken k d.cursor.pos d.due ts d'.cursor.pos d'.due us s) e c.0))

pub calls_kept : (s : Section) (calls : List ℕ) → ((b : Bor (List ℕ)) (at : ℕ) → s ≡ kind.Calls b at → ⊥) → calls_now calls s ≡ calls
calls_kept (kind.Table b at) calls n = refl
calls_kept (kind.Calls b at) calls n = absurd (n b at refl)
calls_kept (kind.Note b at) calls n = refl

pub reader_finished : (f : List ℕ) (h : Settings) (d d' : Reader) (ts us : List Task) (calls : List ℕ) → d.file.now ≡ f → Progress f h d.cursor.pos d.due ts calls d.noted → Came d ts d' us None → Holds f h us calls d'.noted
reader_finished f h d d' ts us calls e g c =
    subst (λ k. Holds f h k calls d'.noted) (sym c.5) (subst (Holds f h ts calls) (sym c.4) (finished f h d.cursor.pos d.due ts calls d.noted g (c.0 ∙ ap length e) c.1))
