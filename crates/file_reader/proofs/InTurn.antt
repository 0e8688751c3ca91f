-- Rows, calls and sections told from the first on, where the specs tell them from the last.
use Rattle.std.proofs.Common.{◌≡◌, ℕ, ◌+◌, ◌≤◌, List, [], ◌∷◌, ◌++◌, length, None, sym, refl, ap, ◌∙◌, subst, arith}
use Rattle.std.proofs.lemmas.List.{append_assoc, append-nil, length_push}
use Rattle.plan.specs.Rows.{Task}
use Rattle.file_parts.specs.declared.call.Call.{Call}
use Rattle.file_parts.specs.declared.due.Due.{Due}
use Rattle.file_parts.specs.declared.due.Due.TheVariants.{Table, Calls, Notes}
use Rattle.file_reader.specs.Grammar.{Part, table_part, calls_part, note_part, Taken, Counts, GoodCalls, Follows, Parts, rows, calls, note}
use Rattle.file_reader.specs.Faults.{refused}

-- rows that a table of k rows takes
abbrev pub RowsAfter : ℕ → List Task → Type 0
RowsAfter k [] = Unit {0}
RowsAfter k (t ∷ ts) = (refused t k ≡ None) × RowsAfter (k + 1) ts

pub rows_split : (k : ℕ) (ts us : List Task) → RowsAfter k (ts ++ us) → RowsAfter (k + length ts) us
rows_split k [] us a = subst (λ n. RowsAfter n us) (omega arith) a
rows_split k (t ∷ ts) us a = subst (λ n. RowsAfter n us) (omega arith) (rows_split (k + 1) ts us a.1)

rows_more : (k : ℕ) (ts : List Task) (t : Task) → RowsAfter k ts → refused t (k + length ts) ≡ None → RowsAfter k (ts ++ t ∷ [])
rows_more k [] t a e = (subst (λ n. refused t n ≡ None) (omega arith) e, tt)
rows_more k (u ∷ ts) t a e = (a.0, rows_more (k + 1) ts t a.1 (subst (λ n. refused t n ≡ None) (omega arith) e))

pub taken_rows : (ts : List Task) → Taken ts → RowsAfter 0 ts
taken_rows _ Taken.none = tt
taken_rows _ (Taken.one_more ts t k e) = rows_more 0 ts t (taken_rows ts k) (subst (λ n. refused t n ≡ None) (omega arith) e)

pub rows_taken : (ts us : List Task) → Taken ts → RowsAfter (length ts) us → Taken (ts ++ us)
rows_taken ts [] k a = subst Taken (sym (append-nil ts)) k
rows_taken ts (u ∷ us) k a =
    subst Taken (append_assoc ts (u ∷ []) us)
    (rows_taken (ts ++ u ∷ []) us (Taken.one_more ts u k a.0) (subst (λ n. RowsAfter n us) (sym (length_push ts u)) a.1))

-- calls, each of which counts
abbrev pub AllCount : List Call → Type 0
AllCount [] = Unit {0}
AllCount (c ∷ cs) = Counts c × AllCount cs

pub counts_split : (cs ds : List Call) → AllCount (cs ++ ds) → AllCount ds
counts_split [] ds a = a
counts_split (c ∷ cs) ds a = counts_split cs ds a.1

counts_more : (cs : List Call) (c : Call) → AllCount cs → Counts c → AllCount (cs ++ c ∷ [])
counts_more [] c a k = (k, tt)
counts_more (d ∷ cs) c a k = (a.0, counts_more cs c a.1 k)

pub good_counts : (cs : List Call) → GoodCalls cs → AllCount cs
good_counts _ GoodCalls.none = tt
good_counts _ (GoodCalls.one_more cs c g k) = counts_more cs c (good_counts cs g) k

-- what is due after a section, and after several
abbrev pub next : Due → Part → Due
next due (table_part ts) = Calls
next due (calls_part cs) = Notes
next due (note_part bytes) = due

abbrev pub due_after : Due → List Part → Due
due_after due [] = due
due_after due (x ∷ ps) = due_after (next due x) ps

pub follows_next : (due : Due) (x : Part) (due' : Due) → Follows due x due' → due' ≡ next due x
follows_next _ _ _ (rows ts k) = refl
follows_next _ _ _ (calls cs g l) = refl
follows_next _ _ _ (note due bytes n) = refl

-- which section may follow, by what is due
abbrev pub InTurn : Due → Part → Type 0
InTurn Table (table_part ts) = Taken ts
InTurn Table (calls_part cs) = ⊥
InTurn Table (note_part bytes) = ⊥
InTurn Calls (table_part ts) = ⊥
InTurn Calls (calls_part cs) = GoodCalls cs × (1 ≤ length cs)
InTurn Calls (note_part bytes) = Unit {0}
InTurn Notes (table_part ts) = ⊥
InTurn Notes (calls_part cs) = ⊥
InTurn Notes (note_part bytes) = Unit {0}

pub follows_turn : (due : Due) (x : Part) (due' : Due) → Follows due x due' → InTurn due x
follows_turn _ _ _ (rows ts k) = k
follows_turn _ _ _ (calls cs g l) = (g, l)
follows_turn _ _ _ (note due bytes n) = noted due n
  where
    noted : (d : Due) → (d ≡ Table → ⊥) → InTurn d (note_part bytes)
    noted Table z = absurd (z refl)
    noted Calls z = tt
    noted Notes z = tt

-- sections that follow each other
abbrev pub Course : Due → List Part → Type 0
Course due [] = Unit {0}
Course due (x ∷ ps) = InTurn due x × Course (next due x) ps

pub course_split : (due : Due) (ps qs : List Part) → Course due (ps ++ qs) → Course (due_after due ps) qs
course_split due [] qs a = a
course_split due (x ∷ ps) qs a = course_split (next due x) ps qs a.1

course_more : (due : Due) (ps : List Part) (x : Part) → Course due ps → InTurn (due_after due ps) x → Course due (ps ++ x ∷ [])
course_more due [] x a f = (f, tt)
course_more due (y ∷ ps) x a f = (a.0, course_more (next due y) ps x a.1 f)

due_more : (due : Due) (ps : List Part) (x : Part) → due_after due (ps ++ x ∷ []) ≡ next (due_after due ps) x
due_more due [] x = refl
due_more due (y ∷ ps) x = due_more (next due y) ps x

-- parts, and what is due after them
pub parts_course : (ps : List Part) (due : Due) → Parts ps due → Course Table ps × (due ≡ due_after Table ps)
parts_course _ _ Parts.none = (tt, refl)
parts_course _ _ (Parts.one_more ps x due due' k f) =
    let before = parts_course ps due k in
    (course_more Table ps x before.0 (subst (λ d. InTurn d x) before.1 (follows_turn due x due' f)), follows_next due x due' f ∙ ap (λ d. next d x) before.1 ∙ sym (due_more Table ps x))
