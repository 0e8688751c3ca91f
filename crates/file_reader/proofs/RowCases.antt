-- A row read from a part of a file, and the row that stands in the file.
use Rattle.std.proofs.Common.{◌≡◌, ℕ, ◌+◌, ◌-◌, ◌*◌, ◌<◌, ◌≤◌, Bool, true, false, cond, ltb, ◌⊎◌, List, length, get_or, take, drop, Some, None, sym, ap, ◌∙◌, inl, inr, ⊎_elim, arith}
use Rattle.std.proofs.lemmas.List.{length-take-le, length-drop, get_or-take, get_or-drop, take-take, drop-drop, drop-take}
use Rattle.std.proofs.lemmas.Bool.{cases_Bool, cases_lt, lt-ltb, le-ltb, cond-true, cond-false}
use Rattle.file_reader.specs.declared.rows.RowRead.{RowRead}
use Rattle.file_reader.specs.declared.rows.RowFault.TheVariants as form
use Rattle.file_parts.specs.declared.fault.Fault.TheVariants.{Name, Cut}
use Rattle.file_reader.specs.Bytes.{word_at, long_at, Stands}
use Rattle.file_reader.specs.Faults.{name_length, task_at, refused, row_told, row_fault}
use Rattle.file_reader.specs.RowReads.{failed, row_read, row_used}

-- a row's tests: is it cut, is its name's length good, is its name cut
module _ {X : Type 0} (a b c : Bool) (cut bad good : X) where
  is_cut : a ≡ true → cond a cut (cond b (cond c cut good) bad) ≡ cut
  is_cut x = cond-true a cut (cond b (cond c cut good) bad) x

  is_bad : a ≡ false → b ≡ false → cond a cut (cond b (cond c cut good) bad) ≡ bad
  is_bad x y = cond-false a cut (cond b (cond c cut good) bad) x ∙ cond-false b (cond c cut good) bad y

  is_name_cut : a ≡ false → b ≡ true → c ≡ true → cond a cut (cond b (cond c cut good) bad) ≡ cut
  is_name_cut x y z = cond-false a cut (cond b (cond c cut good) bad) x ∙ cond-true b (cond c cut good) bad y ∙ cond-true c cut good z

  is_good : a ≡ false → b ≡ true → c ≡ false → cond a cut (cond b (cond c cut good) bad) ≡ good
  is_good x y z = cond-false a cut (cond b (cond c cut good) bad) x ∙ cond-true b (cond c cut good) bad y ∙ cond-false c cut good z

abbrev pub part : List ℕ → ℕ → ℕ → List ℕ
part f p e = take (e - p) (drop p f)

module _ (f : List ℕ) (p e : ℕ) (h : p ≤ e) (w : e ≤ length f) where
  pub part_length : length (part f p e) ≡ e - p
  part_length = length-take-le (e - p) (drop p f) (omega (arith, length-drop p f))

  pub part_byte : (i : ℕ) → i < e - p → get_or (part f p e) i 0 ≡ get_or f (p + i) 0
  part_byte i l = get_or-take (e - p) (drop p f) i 0 l ∙ get_or-drop p f i 0

  part_word : (i : ℕ) → i + 1 < e - p → word_at (part f p e) i ≡ word_at f (p + i)
  part_word i l =
      ap (λ x. x * 256 + get_or (part f p e) (i + 1) 0) (part_byte i (omega arith))
      ∙ ap (λ x. get_or f (p + i) 0 * 256 + x) (part_byte (i + 1) (omega arith) ∙ ap (λ k. get_or f k 0) (omega arith))

  pub part_long : (i : ℕ) → i + 3 < e - p → long_at (part f p e) i ≡ long_at f (p + i)
  part_long i l =
      ap (λ x. x * 65536 + word_at (part f p e) (i + 2)) (part_word i (omega arith))
      ∙ ap (λ x. word_at f (p + i) * 65536 + x) (part_word (i + 2) (omega arith) ∙ ap (λ k. word_at f k) (omega arith))

  pub part_stands : (xs : List ℕ) → length xs ≤ e - p → Stands (part f p e) 0 xs → Stands f p xs
  part_stands xs l s = sym (take-take (length xs) (e - p) (drop p f) l) ∙ s

  -- what a row read from the part is in the file
  pub data Seen : Type 0 where
    cut : row_read (part f p e) ≡ failed form.Cut → ((k : ℕ) → row_fault f p e k ≡ Some (Cut e)) → Seen
    misnamed : row_read (part f p e) ≡ failed form.Name → ((k : ℕ) → row_fault f p e k ≡ Some (Name (p + 8))) → Seen
    whole : p + 9 + get_or f (p + 8) 0 ≤ e → row_read (part f p e) ≡ record { budget = long_at f p; period = long_at f (p + 4); name_at = 9; name_len = get_or f (p + 8) 0; fault = None } → row_used (part f p e) ≡ 9 + get_or f (p + 8) 0 → task_at (part f p e) 0 ≡ task_at f p → ((k : ℕ) → row_fault f p e k ≡ row_told (p + 8) k (refused (task_at f p) k)) → Seen

  module _ (l : p + 9 ≤ e) where
    at_length : get_or (part f p e) 8 0 ≡ get_or f (p + 8) 0
    at_length = part_byte 8 (omega arith)

    same_task : p + 9 + get_or f (p + 8) 0 ≤ e → task_at (part f p e) 0 ≡ task_at f p
    same_task m =
        ap (λ x. record { budget = x; period = long_at (part f p e) 4; name = take (get_or (part f p e) 8 0) (drop 9 (part f p e)) }) (part_long 0 (omega arith) ∙ ap (λ k. long_at f k) (omega arith))
        ∙ ap (λ x. record { budget = long_at f p; period = x; name = take (get_or (part f p e) 8 0) (drop 9 (part f p e)) }) (part_long 4 (omega arith))
        ∙ ap (λ x. record { budget = long_at f p; period = long_at f (p + 4); name = x }) named
      where
        named : take (get_or (part f p e) 8 0) (drop 9 (part f p e)) ≡ take (get_or f (p + 8) 0) (drop (p + 9) f)
        named =
            ap (λ x. take x (drop 9 (part f p e))) at_length
            ∙ ap (λ x. take (get_or f (p + 8) 0) (drop 9 (take x (drop p f)))) (omega arith)
            ∙ ap (take (get_or f (p + 8) 0)) (drop-take 9 (e - p - 9) (drop p f))
            ∙ take-take (get_or f (p + 8) 0) (e - p - 9) (drop 9 (drop p f)) (omega arith)
            ∙ ap (take (get_or f (p + 8) 0)) (drop-drop 9 p f)

    same_read : ◌≡◌ {A = RowRead} (record { budget = long_at (part f p e) 0; period = long_at (part f p e) 4; name_at = 9; name_len = get_or (part f p e) 8 0; fault = None }) (record { budget = long_at f p; period = long_at f (p + 4); name_at = 9; name_len = get_or f (p + 8) 0; fault = None })
    same_read =
        let b : long_at (part f p e) 0 ≡ long_at f p = part_long 0 (omega arith) ∙ ap (λ k. long_at f k) (omega arith) in
        let d : long_at (part f p e) 4 ≡ long_at f (p + 4) = part_long 4 (omega arith) in
        let n = at_length in
        cc

    module _ (a : ltb e (p + 9) ≡ false) (a' : ltb (length (part f p e)) 9 ≡ false) where
      seen_name : (name_length (get_or f (p + 8) 0) ≡ true) ⊎ (name_length (get_or f (p + 8) 0) ≡ false) → Seen
      seen_name (inr bad) =
          misnamed (is_bad (ltb (length (part f p e)) 9) (name_length (get_or (part f p e) 8 0)) (ltb (length (part f p e)) (9 + get_or (part f p e) 8 0)) (failed form.Cut) (failed form.Name) _ a' (ap name_length at_length ∙ bad))
          (λ k. is_bad (ltb e (p + 9)) (name_length (get_or f (p + 8) 0)) (ltb e (p + 9 + get_or f (p + 8) 0)) (Some (Cut e)) (Some (Name (p + 8))) (row_told (p + 8) k (refused (task_at f p) k)) a bad)
      seen_name (inl good) = ⊎_elim
          (λ (c : e < p + 9 + get_or f (p + 8) 0).
          cut (is_name_cut (ltb (length (part f p e)) 9) (name_length (get_or (part f p e) 8 0)) (ltb (length (part f p e)) (9 + get_or (part f p e) 8 0)) (failed form.Cut) (failed form.Name) _ a' (ap name_length at_length ∙ good) (lt-ltb (length (part f p e)) (9 + get_or (part f p e) 8 0) (omega (arith, part_length, at_length, c))))
          (λ k. is_name_cut (ltb e (p + 9)) (name_length (get_or f (p + 8) 0)) (ltb e (p + 9 + get_or f (p + 8) 0)) (Some (Cut e)) (Some (Name (p + 8))) (row_told (p + 8) k (refused (task_at f p) k)) a good (lt-ltb e (p + 9 + get_or f (p + 8) 0) c)))
          (λ (c : p + 9 + get_or f (p + 8) 0 ≤ e).
          let room : ltb (length (part f p e)) (9 + get_or (part f p e) 8 0) ≡ false = le-ltb (length (part f p e)) (9 + get_or (part f p e) 8 0) (omega (arith, part_length, at_length, c)) in
          let named : name_length (get_or (part f p e) 8 0) ≡ true = ap name_length at_length ∙ good in
          whole c
          (is_good (ltb (length (part f p e)) 9) (name_length (get_or (part f p e) 8 0)) (ltb (length (part f p e)) (9 + get_or (part f p e) 8 0)) (failed form.Cut) (failed form.Name) (record { budget = long_at (part f p e) 0; period = long_at (part f p e) 4; name_at = 9; name_len = get_or (part f p e) 8 0; fault = None }) a' named room ∙ same_read)
          (is_good (ltb (length (part f p e)) 9) (name_length (get_or (part f p e) 8 0)) (ltb (length (part f p e)) (9 + get_or (part f p e) 8 0)) 0 0 (9 + get_or (part f p e) 8 0) a' named room ∙ ap (λ x. 9 + x) at_length)
          (same_task c)
          (λ k. is_good (ltb e (p + 9)) (name_length (get_or f (p + 8) 0)) (ltb e (p + 9 + get_or f (p + 8) 0)) (Some (Cut e)) (Some (Name (p + 8))) (row_told (p + 8) k (refused (task_at f p) k)) a good (le-ltb e (p + 9 + get_or f (p + 8) 0) c)))
          (cases_lt e (p + 9 + get_or f (p + 8) 0))

  pub seen : Seen
  seen = ⊎_elim
      (λ (c : e < p + 9). cut (cond-true (ltb (length (part f p e)) 9) _ _ (lt-ltb (length (part f p e)) 9 (omega (arith, part_length)))) (λ k. cond-true (ltb e (p + 9)) _ _ (lt-ltb e (p + 9) c)))
      (λ (c : p + 9 ≤ e). seen_name c (le-ltb e (p + 9) c) (le-ltb (length (part f p e)) 9 (omega (arith, part_length))) (cases_Bool (name_length (get_or f (p + 8) 0))))
      (cases_lt e (p + 9))
