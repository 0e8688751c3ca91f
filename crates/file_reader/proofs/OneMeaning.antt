-- No file has two meanings.
use Rattle.std.proofs.Common.{◌≡◌, ℕ, ◌+◌, Bool, List, [], ◌∷◌, ◌++◌, length, drop, None, sym, ap, ◌∙◌, subst, arith}
use Rattle.std.specs.List.{flat_map}
use Rattle.std.proofs.lemmas.List.{append_assoc, append-nil, length-append, length-take-le, take_all, take-append-drop}
use Rattle.plan.specs.Rows.{Task}
use Rattle.file_parts.specs.declared.due.Due.{Due}
use Rattle.file_parts.specs.declared.due.Due.TheVariants.{Table}
use Rattle.file_parts.specs.declared.fault.Fault.{Fault}
use Rattle.file_parts.specs.declared.settings.Settings.{Settings}
use Rattle.file_reader.specs.Grammar.{Part, header, call_bytes, part_bytes, tasks_in, calls_in, noted}
use Rattle.file_reader.specs.Faults.{header_fault}
use Rattle.file_reader.specs.Steps.{SectionFaulty}
use Rattle.file_reader.specs.Meaning.{Whole, Begun, Holds, FirstFault, in_header, in_section, Answer, acceptance, refusal, Means, Only}
use Rattle.file_reader.proofs.InTurn.{InTurn, Course, course_split, due_after, parts_course}
use Rattle.file_reader.proofs.Delimited.{part_delimited, header_delimited, joined_same}
use Rattle.file_reader.proofs.Clean.{header_clean}
use Rattle.file_reader.proofs.Furthest.{never_both, same_fault, each_longer, joined_length, furthest}
use Rattle.file_reader.proofs.OneFault.{part_some, whole_clean, end_clean, faults_same}

-- a whole file has begun, up to its end
whole_begun : (f : List ℕ) (h : Settings) (ps : List Part) (w : Whole f h ps) → Begun f (length f) h ps w.due
whole_begun f h ps w = record { within = omega arith; spelled = take_all (length f) f (omega arith) ∙ w.spelled; letter = w.letter; parts = w.parts }

-- the front of a file, and what is left of it
module _ (f : List ℕ) (p : ℕ) (h : Settings) (ps : List Part) (due : Due) (k : Begun f p h ps due) where
  front : f ≡ header h ++ (flat_map part_bytes ps ++ drop p f)
  front = sym (take-append-drop p f) ∙ ap (λ l. l ++ drop p f) k.spelled ∙ append_assoc (header h) (flat_map part_bytes ps) (drop p f)

  behind : drop 8 f ≡ flat_map part_bytes ps ++ drop p f
  behind = ap (drop 8) front

  place : p ≡ 8 + length (flat_map part_bytes ps)
  place = sym (length-take-le p f k.within) ∙ ap length k.spelled ∙ omega arith

  headed : header_fault f ≡ None
  headed = header_clean f h (flat_map part_bytes ps ++ drop p f) front k.letter

  due_told : due ≡ due_after Table ps
  due_told = (parts_course ps due k.parts).1

one_header : (f : List ℕ) (p q : ℕ) (g h : Settings) (ps qs : List Part) (d e : Due) → Begun f p g ps d → Begun f q h qs e → g ≡ h
one_header f p q g h ps qs d e k l =
    (header_delimited g h (flat_map part_bytes ps ++ drop p f) (flat_map part_bytes qs ++ drop q f) (sym (front f p g ps d k) ∙ front f q h qs e l)).0

-- sections up to a fault go as far as any others
module _ (f : List ℕ) (p : ℕ) (h : Settings) (ps : List Part) (due : Due) (x : Fault) (k : Begun f p h ps due) (a : SectionFaulty f p due x) where
  parts_furthest : (q : ℕ) (g : Settings) (qs : List Part) (due' : Due) → Begun f q g qs due' → (zs : List Part) × (ps ≡ qs ++ zs)
  parts_furthest q g qs due' l =
      furthest part_bytes part_delimited f 8 (length f) ps qs (drop p f) (drop q f) (behind f p h ps due k) (behind f q g qs due' l) (omega (arith, place f q g qs due' l, l.within))
      (λ z zs t same here within.
      let at : 8 + length (flat_map part_bytes ps) ≡ p = sym (place f p h ps due k) in
      let turn : InTurn due z = subst (λ d. InTurn d z) (sym (due_told f p h ps due k)) (course_split Table ps (z ∷ zs) (subst (Course Table) same (parts_course qs due' l.parts).0)).0 in
      whole_clean f p due z t x (ap (λ i. drop i f) (sym at) ∙ here) (omega arith) turn a)

-- a whole file has no fault
whole_good : (f : List ℕ) (h : Settings) (ps : List Part) (e : Fault) → Whole f h ps → FirstFault f e → ⊥
whole_good f h ps _ w (in_header e a) = never_both (header_fault f) e a (headed f (length f) h ps w.due (whole_begun f h ps w))
whole_good f h ps _ w (in_section e p g qs due k a) =
    let b = whole_begun f h ps w in
    let on = parts_furthest f p g qs due e k a (length f) h ps w.due b in
    let here : p ≡ 8 + length (flat_map part_bytes qs) = place f p g qs due k in
    let there : length f ≡ 8 + length (flat_map part_bytes ps) = place f (length f) h ps w.due b in
    let more : length (flat_map part_bytes qs) ≡ length (flat_map part_bytes ps) + length (flat_map part_bytes on.0) = joined_length part_bytes qs ps on.0 on.1 in
    let same : qs ≡ ps = on.1 ∙ ended ps on.0 (omega (arith, k.within)) in
    end_clean f p due e (omega (arith, k.within)) (λ t. w.tabled (due_told f (length f) h ps w.due b ∙ ap (due_after Table) (sym same) ∙ sym (due_told f p g qs due k) ∙ t)) a
  where
    ended : (xs zs : List Part) → length (flat_map part_bytes zs) ≡ 0 → xs ++ zs ≡ xs
    ended xs [] e = append-nil xs
    ended xs (z ∷ zs) e = absurd (omega (arith, part_some z, length-append (part_bytes z) (flat_map part_bytes zs)))

-- two faults of a file are one
one_fault : (f : List ℕ) (x y : Fault) → FirstFault f x → FirstFault f y → x ≡ y
one_fault f _ _ (in_header x a) (in_header y b) = same_fault (header_fault f) x y a b
one_fault f _ _ (in_header x a) (in_section y q g qs due' l b) = absurd (never_both (header_fault f) x a (headed f q g qs due' l))
one_fault f _ _ (in_section x p h ps due k a) (in_header y b) = absurd (never_both (header_fault f) y b (headed f p h ps due k))
one_fault f _ _ (in_section x p h ps due k a) (in_section y q g qs due' l b) =
    let on = parts_furthest f p h ps due x k a q g qs due' l in
    let back = parts_furthest f q g qs due' y l b p h ps due k in
    let same : qs ≡ ps = each_longer qs ps back.0 on.0 back.1 on.1 in
    let at : q ≡ p = place f q g qs due' l ∙ ap (λ l. 8 + length (flat_map part_bytes l)) same ∙ sym (place f p h ps due k) in
    let turn : due' ≡ due = due_told f q g qs due' l ∙ ap (due_after Table) same ∙ sym (due_told f p h ps due k) in
    faults_same f p due x y a (subst (λ i. SectionFaulty f i due y) at (subst (λ d. SectionFaulty f q d y) turn b))

-- what a file holds, it holds alone
one_content : (f : List ℕ) (g h : Settings) (ts us : List Task) (cs ds : List ℕ) (m n : Bool) → Holds f g ts cs m → Holds f h us ds n → acceptance g ts cs m ≡ acceptance h us ds n
one_content f g h ts us cs ds m n k l =
    let b = whole_begun f g k.parts k.whole in
    let c = whole_begun f h l.parts l.whole in
    let head : g ≡ h = one_header f (length f) (length f) g h k.parts l.parts k.whole.due l.whole.due b c in
    let same : k.parts ≡ l.parts = joined_same part_bytes part_delimited (λ x. omega (arith, part_some x)) k.parts l.parts (ap (drop 8) (sym k.whole.spelled ∙ l.whole.spelled)) in
    let tasks : ts ≡ us = sym k.tasks ∙ ap tasks_in same ∙ l.tasks in
    let called : cs ≡ ds = sym k.called ∙ ap (λ ps. flat_map call_bytes (calls_in ps)) same ∙ l.called in
    let notes : m ≡ n = sym k.noting ∙ ap noted same ∙ l.noting in
    ap (λ x. acceptance x ts cs m) head ∙ ap (λ x. acceptance h x cs m) tasks ∙ ap (λ x. acceptance h us x m) called ∙ ap (λ x. acceptance h us ds x) notes

pub one_meaning : (f : List ℕ) (x y : Answer) → Means f x → Means f y → x ≡ y
one_meaning f (acceptance g ts cs m) (acceptance h us ds n) k l = one_content f g h ts us cs ds m n k l
one_meaning f (acceptance g ts cs m) (refusal e) k l = absurd (whole_good f g k.parts e k.whole l)
one_meaning f (refusal e) (acceptance h us ds n) k l = absurd (whole_good f h l.parts e l.whole k)
one_meaning f (refusal x) (refusal y) k l = ap refusal (one_fault f x y k l)

pub only : (f : List ℕ) (x : Answer) → Means f x → Only f x
only f x k y l = one_meaning f y x l k
