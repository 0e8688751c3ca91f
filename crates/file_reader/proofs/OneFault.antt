-- A section has one fault, and a whole section that was due has none.
use Rattle.std.proofs.Common.{◌≡◌, ℕ, ◌+◌, ◌<◌, ◌≤◌, List, ◌∷◌, ◌++◌, length, drop, Some, None, sym, refl, ap, ◌∙◌, subst, arith}
use Rattle.std.specs.List.{flat_map}
use Rattle.std.proofs.lemmas.List.{drop-drop}
use Rattle.plan.specs.Rows.{Task}
use Rattle.file_parts.specs.declared.call.Call.{Call}
use Rattle.file_parts.specs.declared.due.Due.{Due}
use Rattle.file_parts.specs.declared.due.Due.TheVariants.{Table, Calls, Notes}
use Rattle.file_parts.specs.declared.fault.Fault.{Fault}
use Rattle.file_reader.specs.Bytes.{two, Stands}
use Rattle.file_reader.specs.Grammar.{Part, table_part, calls_part, note_part, Taken, GoodCalls, section, row_bytes, call_bytes, part_bytes}
use Rattle.file_reader.specs.Faults.{section_fault, its_turn, row_fault, call_fault}
use Rattle.file_reader.specs.Steps.{RowsTaken, CallsTaken, SectionFaulty, no_table, in_head, in_row, in_call}
use Rattle.file_reader.proofs.InTurn.{InTurn}
use Rattle.file_reader.proofs.Delimited.{head_same, two_delimited, calls_some}
use Rattle.file_reader.proofs.Clean.{stands_front, head_clean}
use Rattle.file_reader.proofs.Furthest.{never_both, same_fault, joined_length, rows_furthest, calls_furthest, rows_same, calls_same}

pub part_some : (x : Part) → 3 ≤ length (part_bytes x)
part_some (table_part ts) = omega arith
part_some (calls_part cs) = omega arith
part_some (note_part bytes) = omega arith

apart_due : (due : Due) → due ≡ Table → due ≡ Calls → ⊥
apart_due due p q = let z : ◌≡◌ {A = ℕ} 0 1 = cc in omega arith

module _ (f : List ℕ) (p : ℕ) where
  -- the head of a whole section
  whole_head : (due : Due) (x : Part) (r : List ℕ) → drop p f ≡ part_bytes x ++ r → p + length (part_bytes x) ≤ length f → InTurn due x → section_fault f p due ≡ None
  whole_head Table (table_part ts) r e fits k = head_clean f p Table 84 (length (flat_map row_bytes ts)) (flat_map row_bytes ts ++ r) e (omega arith) refl refl (λ z. absurd (omega arith))
  whole_head Table (calls_part cs) r e fits k = absurd k
  whole_head Table (note_part bytes) r e fits k = absurd k
  whole_head Calls (table_part ts) r e fits k = absurd k
  whole_head Calls (calls_part cs) r e fits k = head_clean f p Calls 67 (length (flat_map call_bytes cs)) (flat_map call_bytes cs ++ r) e (omega arith) refl refl (λ z. calls_some cs k.1)
  whole_head Calls (note_part bytes) r e fits k = head_clean f p Calls 78 (length bytes) (bytes ++ r) e (omega arith) refl refl (λ z. absurd (omega arith))
  whole_head Notes (table_part ts) r e fits k = absurd k
  whole_head Notes (calls_part cs) r e fits k = absurd k
  whole_head Notes (note_part bytes) r e fits k = head_clean f p Notes 78 (length bytes) (bytes ++ r) e (omega arith) refl refl (λ z. absurd (omega arith))

  -- the head of a section whose rows or calls are at fault
  row_head : (due : Due) (n : ℕ) → due ≡ Table → Stands f p (84 ∷ two n) → p + 3 + n ≤ length f → section_fault f p due ≡ None
  row_head due n d s fits = head_clean f p due 84 n (drop 3 (drop p f)) (stands_front f p (84 ∷ two n) s) fits refl (ap (λ x. its_turn x 84) d) (λ z. absurd (omega arith))

  call_head : (due : Due) (n : ℕ) → due ≡ Calls → Stands f p (67 ∷ two n) → p + 3 + n ≤ length f → 1 ≤ n → section_fault f p due ≡ None
  call_head due n d s fits some = head_clean f p due 67 n (drop 3 (drop p f)) (stands_front f p (67 ∷ two n) s) fits refl (ap (λ x. its_turn x 67) d) (λ z. some)

  -- one length stands behind a letter
  one_length : (a m n : ℕ) → Stands f p (a ∷ two m) → Stands f p (a ∷ two n) → m ≡ n
  one_length a m n s t =
      (two_delimited m n (drop 3 (drop p f)) (drop 3 (drop p f)) (head_same a a (two m ++ drop 3 (drop p f)) (two n ++ drop 3 (drop p f)) (sym (stands_front f p (a ∷ two m) s) ∙ stands_front f p (a ∷ two n) t)).1).0

  -- a whole section's length and body
  whole_length : (a n : ℕ) (body r : List ℕ) → Stands f p (a ∷ two n) → drop p f ≡ section a body ++ r → n ≡ length body
  whole_length a n body r s e =
      (two_delimited n (length body) (drop 3 (drop p f)) (body ++ r) (head_same a a (two n ++ drop 3 (drop p f)) (two (length body) ++ (body ++ r)) (sym (stands_front f p (a ∷ two n) s) ∙ e)).1).0

  whole_body : (a : ℕ) (body r : List ℕ) → drop p f ≡ section a body ++ r → drop (p + 3) f ≡ body ++ r
  whole_body a body r e = sym (drop-drop 3 p f) ∙ ap (drop 3) e

  -- no row of a whole table is at fault, nor any call of whole calls
  whole_rows : (n q : ℕ) (e : Fault) (ts us : List Task) (r : List ℕ) → Stands f p (84 ∷ two n) → RowsTaken f (p + 3) q ts → q < p + 3 + n → row_fault f q (p + 3 + n) (length ts) ≡ Some e → drop p f ≡ section 84 (flat_map row_bytes us) ++ r → Taken us → ⊥
  whole_rows n q e ts us r s k l a front taken =
      let many : n ≡ length (flat_map row_bytes us) = whole_length 84 n (flat_map row_bytes us) r s front in
      let on = rows_furthest f (p + 3) q (p + 3 + n) e ts k a us r (whole_body 84 (flat_map row_bytes us) r front) (omega arith) taken in
      omega (arith, k.after, joined_length row_bytes ts us on.0 on.1)

  whole_calls : (n q : ℕ) (e : Fault) (cs ds : List Call) (r : List ℕ) → Stands f p (67 ∷ two n) → CallsTaken f (p + 3) q cs → q < p + 3 + n → call_fault f q (p + 3 + n) ≡ Some e → drop p f ≡ section 67 (flat_map call_bytes ds) ++ r → GoodCalls ds → ⊥
  whole_calls n q e cs ds r s k l a front good =
      let many : n ≡ length (flat_map call_bytes ds) = whole_length 67 n (flat_map call_bytes ds) r s front in
      let on = calls_furthest f (p + 3) q (p + 3 + n) e cs k a ds r (whole_body 67 (flat_map call_bytes ds) r front) (omega arith) good in
      omega (arith, k.after, joined_length call_bytes cs ds on.0 on.1)

  -- where a whole section stands, which was due, no section is at fault
  pub whole_clean : (due : Due) (x : Part) (r : List ℕ) (e : Fault) → drop p f ≡ part_bytes x ++ r → p + length (part_bytes x) ≤ length f → InTurn due x → SectionFaulty f p due e → ⊥
  whole_clean due x r _ front fits turn (no_table z d) = omega (arith, part_some x)
  whole_clean due x r _ front fits turn (in_head e l a) = never_both (section_fault f p due) e a (whole_head due x r front fits turn)
  whole_clean due (table_part us) r _ front fits turn (in_row e n q ts d s w k l a) = whole_rows n q e ts us r s k l a front (subst (λ z. InTurn z (table_part us)) d turn)
  whole_clean due (calls_part ds) r _ front fits turn (in_row e n q ts d s w k l a) = subst (λ z. InTurn z (calls_part ds)) d turn
  whole_clean due (note_part bytes) r _ front fits turn (in_row e n q ts d s w k l a) = subst (λ z. InTurn z (note_part bytes)) d turn
  whole_clean due (table_part us) r _ front fits turn (in_call e n q cs d s w k l a) = subst (λ z. InTurn z (table_part us)) d turn
  whole_clean due (calls_part ds) r _ front fits turn (in_call e n q cs d s w k l a) = whole_calls n q e cs ds r s k l a front (subst (λ z. InTurn z (calls_part ds)) d turn).0
  whole_clean due (note_part bytes) r _ front fits turn (in_call e n q cs d s w k l a) =
      let z : ◌≡◌ {A = ℕ} 67 78 = (head_same 67 78 (two n ++ drop 3 (drop p f)) (two (length bytes) ++ (bytes ++ r)) (sym (stands_front f p (67 ∷ two n) s) ∙ front)).0 in
      omega arith

  -- at its end a file that has a table has no fault
  pub end_clean : (due : Due) (e : Fault) → p ≡ length f → (due ≡ Table → ⊥) → SectionFaulty f p due e → ⊥
  end_clean due _ z t (no_table y d) = t d
  end_clean due _ z t (in_head e l a) = omega arith
  end_clean due _ z t (in_row e n q ts d s w k l a) = omega arith
  end_clean due _ z t (in_call e n q cs d s w k l a) = omega arith

  -- two faults of a section are one
  pub faults_same : (due : Due) (x y : Fault) → SectionFaulty f p due x → SectionFaulty f p due y → x ≡ y
  faults_same due _ _ (no_table z d) (no_table z' d') = refl
  faults_same due _ _ (no_table z d) (in_head y l' a') = absurd (omega arith)
  faults_same due _ _ (no_table z d) (in_row y n' q' us d' s' w' k' l' a') = absurd (omega arith)
  faults_same due _ _ (no_table z d) (in_call y n' q' ds d' s' w' k' l' a') = absurd (omega arith)
  faults_same due _ _ (in_head x l a) (no_table z' d') = absurd (omega arith)
  faults_same due _ _ (in_head x l a) (in_head y l' a') = same_fault (section_fault f p due) x y a a'
  faults_same due _ _ (in_head x l a) (in_row y n' q' us d' s' w' k' l' a') = absurd (never_both (section_fault f p due) x a (row_head due n' d' s' w'))
  faults_same due _ _ (in_head x l a) (in_call y n' q' ds d' s' w' k' l' a') = absurd (never_both (section_fault f p due) x a (call_head due n' d' s' w' (omega (arith, k'.after))))
  faults_same due _ _ (in_row x n q ts d s w k l a) (no_table z' d') = absurd (omega arith)
  faults_same due _ _ (in_row x n q ts d s w k l a) (in_head y l' a') = absurd (never_both (section_fault f p due) y a' (row_head due n d s w))
  faults_same due _ _ (in_row x n q ts d s w k l a) (in_row y n' q' us d' s' w' k' l' a') =
      let m : p + 3 + n' ≡ p + 3 + n = ap (λ i. p + 3 + i) (one_length 84 n' n s' s) in
      rows_same f (p + 3) (p + 3 + n) q q' x y ts us k l a k' (omega arith) (ap (λ i. row_fault f q' i (length us)) (sym m) ∙ a')
  faults_same due _ _ (in_row x n q ts d s w k l a) (in_call y n' q' ds d' s' w' k' l' a') = absurd (apart_due due d d')
  faults_same due _ _ (in_call x n q cs d s w k l a) (no_table z' d') = absurd (omega arith)
  faults_same due _ _ (in_call x n q cs d s w k l a) (in_head y l' a') = absurd (never_both (section_fault f p due) y a' (call_head due n d s w (omega (arith, k.after))))
  faults_same due _ _ (in_call x n q cs d s w k l a) (in_row y n' q' us d' s' w' k' l' a') = absurd (apart_due due d' d)
  faults_same due _ _ (in_call x n q cs d s w k l a) (in_call y n' q' ds d' s' w' k' l' a') =
      let m : p + 3 + n' ≡ p + 3 + n = ap (λ i. p + 3 + i) (one_length 67 n' n s' s) in
      calls_same f (p + 3) (p + 3 + n) q q' x y cs ds k l a k' (omega arith) (ap (λ i. call_fault f q' i) (sym m) ∙ a')
