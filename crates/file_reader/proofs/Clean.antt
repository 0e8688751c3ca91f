-- A whole piece of a file, where it stands, has no fault.
use Rattle.std.proofs.Common.{◌≡◌, ℕ, ◌+◌, ◌*◌, ◌≤◌, true, cond, ◌&&◌, ◌||◌, eqb, ltb, List, ◌∷◌, ◌++◌, length, get_or, take, drop, Some, None, Option, sym, refl, ap, ◌∙◌, ⊎_elim, arith}
use Rattle.std.proofs.lemmas.List.{get_or-drop, drop-drop, take_at, take-append-drop}
use Rattle.std.proofs.lemmas.Bool.{cases_eq, lt-ltb, le-ltb, ne_eqb, and_from, and_left, and_right, cond-true, cond-false}
use Rattle.plan.specs.Rows.{Task}
use Rattle.file_parts.specs.declared.call.Call.{Call}
use Rattle.file_parts.specs.declared.call.Call.TheVariants.{Request, Done, Ticks}
use Rattle.file_parts.specs.declared.due.Due.{Due}
use Rattle.file_parts.specs.declared.fault.Fault.{Fault}
use Rattle.file_parts.specs.declared.fault.Fault.TheVariants.{Letter, Cut, NoCalls, NoTicks}
use Rattle.file_parts.specs.declared.settings.Settings.{Settings}
use Rattle.file_reader.specs.Bytes.{two, word_at, long_at, Stands}
use Rattle.file_reader.specs.Grammar.{Counts, layout_letter, header, row_bytes, call_bytes}
use Rattle.file_reader.specs.Faults.{header_fault, section_letter, its_turn, section_fault, name_length, refused, row_told, task_at, row_fault, call_fault}
use Rattle.file_reader.proofs.GoodRows.{good_name}
use Rattle.file_reader.proofs.Delimited.{task_same}

-- what stands in a file is the front of what follows
pub stands_front : (f : List ℕ) (p : ℕ) (bytes : List ℕ) → Stands f p bytes → drop p f ≡ bytes ++ drop (length bytes) (drop p f)
stands_front f p bytes s = sym (take-append-drop (length bytes) (drop p f)) ∙ ap (λ l. l ++ drop (length bytes) (drop p f)) s

-- bytes and numbers, read from what is left of a file
module _ (f : List ℕ) (p : ℕ) (l : List ℕ) (e : drop p f ≡ l) where
  byte_read : (i : ℕ) → get_or f (p + i) 0 ≡ get_or l i 0
  byte_read i = sym (get_or-drop p f i 0) ∙ ap (λ k. get_or k i 0) e

  first_read : get_or f p 0 ≡ get_or l 0 0
  first_read = ap (λ k. get_or f k 0) (omega arith) ∙ byte_read 0

  word_read : (i : ℕ) → word_at f (p + i) ≡ word_at l i
  word_read i =
      ap (λ x. x * 256 + get_or f (p + i + 1) 0) (byte_read i)
      ∙ ap (λ x. get_or l i 0 * 256 + x) (ap (λ k. get_or f k 0) (omega arith) ∙ byte_read (i + 1))

  long_read : (i : ℕ) → long_at f (p + i) ≡ long_at l i
  long_read i =
      ap (λ x. x * 65536 + word_at f (p + i + 2)) (word_read i)
      ∙ ap (λ x. word_at l i * 65536 + x) (ap (λ k. word_at f k) (omega arith) ∙ word_read (i + 2))

pub header_clean : (f : List ℕ) (h : Settings) (r : List ℕ) → f ≡ header h ++ r → layout_letter h.letter ≡ true → header_fault f ≡ None
header_clean f h r e good =
    ap header_fault e
    ∙ cond-false (ltb (length (header h ++ r)) 3) _ _ (le-ltb (length (header h ++ r)) 3 (omega arith))
    ∙ cond-false (ltb (length (header h ++ r)) 5) _ _ (le-ltb (length (header h ++ r)) 5 (omega arith))
    ∙ cond-false (ltb (length (header h ++ r)) 8) _ _ (le-ltb (length (header h ++ r)) 8 (omega arith))
    ∙ cond-true (layout_letter h.letter) None (Some (Letter 7)) good

-- a section's letter and length
pub head_clean : (f : List ℕ) (p : ℕ) (due : Due) (a n : ℕ) (r : List ℕ) → drop p f ≡ a ∷ two n ++ r → p + 3 + n ≤ length f → section_letter a ≡ true → its_turn due a ≡ true → (a ≡ 67 → 1 ≤ n) → section_fault f p due ≡ None
head_clean f p due a n r e fits letter turn some =
    let x : get_or f p 0 ≡ a = first_read f p (a ∷ two n ++ r) e in
    let w : word_at f (p + 1) ≡ n = word_read f p (a ∷ two n ++ r) e 1 ∙ omega arith in
    cond-true (section_letter (get_or f p 0)) _ _ (ap section_letter x ∙ letter)
    ∙ cond-true (its_turn due (get_or f p 0)) _ _ (ap (its_turn due) x ∙ turn)
    ∙ cond-false (ltb (length f) (p + 3)) _ _ (le-ltb (length f) (p + 3) (omega arith))
    ∙ cond-false (ltb (length f) (p + 3 + word_at f (p + 1))) _ _ (le-ltb (length f) (p + 3 + word_at f (p + 1)) (omega arith))
    ∙ cond-false (eqb (get_or f p 0) 67 && eqb (word_at f (p + 1)) 0) (Some (NoCalls (p + 1))) None (⊎_elim
    (λ (y : a ≡ 67). and_right (eqb (get_or f p 0) 67) (eqb (word_at f (p + 1)) 0) (ne_eqb (word_at f (p + 1)) 0 (λ z. omega (arith, some y))))
    (λ (y : a ≡ 67 → ⊥). and_left (eqb (get_or f p 0) 67) (eqb (word_at f (p + 1)) 0) (ne_eqb (get_or f p 0) 67 (λ z. y (sym x ∙ z))))
    (cases_eq a 67))

-- a row that ends within its section, and that the table takes
module _ (f : List ℕ) (p : ℕ) (t : Task) (r : List ℕ) (e : drop p f ≡ row_bytes t ++ r) where
  length_read : get_or f (p + 8) 0 ≡ length t.name
  length_read = byte_read f p (row_bytes t ++ r) e 8

  task_read : task_at f p ≡ t
  task_read = task_same (task_at f p) t
      (ap (λ k. long_at f k) (omega arith) ∙ long_read f p (row_bytes t ++ r) e 0 ∙ omega arith)
      (long_read f p (row_bytes t ++ r) e 4 ∙ omega arith)
      (ap (λ n. take n (drop (p + 9) f)) length_read ∙ ap (take (length t.name)) (sym (drop-drop 9 p f) ∙ ap (drop 9) e) ∙ take_at t.name r (length t.name) refl)

  pub row_clean : (end k : ℕ) → p + length (row_bytes t) ≤ end → refused t k ≡ None → row_fault f p end k ≡ None
  row_clean end k fits good =
      let n = good_name t k good in
      cond-false (ltb end (p + 9)) _ _ (le-ltb end (p + 9) (omega arith))
      ∙ cond-true (name_length (get_or f (p + 8) 0)) _ _ (ap name_length length_read ∙ and_from (ltb 0 (length t.name)) (ltb (length t.name) 17) (lt-ltb 0 (length t.name) (omega (arith, n.0))) (lt-ltb (length t.name) 17 (omega (arith, n.1))))
      ∙ cond-false (ltb end (p + 9 + get_or f (p + 8) 0)) _ _ (le-ltb end (p + 9 + get_or f (p + 8) 0) (omega (arith, length_read)))
      ∙ ap (λ u. row_told (p + 8) k (refused u k)) task_read
      ∙ ap (row_told (p + 8) k) good

-- a call's fault, by its letter and the number after it
abbrev call_told : ℕ → ℕ → ℕ → ℕ → Option Fault
call_told a w p end =
    cond (eqb a 82 || eqb a 68)
    (cond (ltb end (p + 2)) (Some (Cut end)) None)
    (cond (eqb a 75)
    (cond (ltb end (p + 3)) (Some (Cut end)) (cond (eqb w 0) (Some (NoTicks (p + 1))) None))
    (Some (Letter p)))

-- a call that ends within the list
pub call_clean : (f : List ℕ) (p : ℕ) (c : Call) (r : List ℕ) → drop p f ≡ call_bytes c ++ r → (end : ℕ) → p + length (call_bytes c) ≤ end → Counts c → call_fault f p end ≡ None
call_clean f p (Request task) r e end fits k =
    ap (λ a. call_told a (word_at f (p + 1)) p end) (first_read f p (82 ∷ task ∷ r) e) ∙ cond-false (ltb end (p + 2)) (Some (Cut end)) None (le-ltb end (p + 2) fits)
call_clean f p (Done task) r e end fits k =
    ap (λ a. call_told a (word_at f (p + 1)) p end) (first_read f p (68 ∷ task ∷ r) e) ∙ cond-false (ltb end (p + 2)) (Some (Cut end)) None (le-ltb end (p + 2) fits)
call_clean f p (Ticks count) r e end fits k =
    let w : word_at f (p + 1) ≡ count = word_read f p (75 ∷ two count ++ r) e 1 ∙ omega arith in
    ap (λ a. call_told a (word_at f (p + 1)) p end) (first_read f p (75 ∷ two count ++ r) e)
    ∙ cond-false (ltb end (p + 3)) _ _ (le-ltb end (p + 3) fits)
    ∙ cond-false (eqb (word_at f (p + 1)) 0) (Some (NoTicks (p + 1))) None (ne_eqb (word_at f (p + 1)) 0 (λ z. omega arith))
