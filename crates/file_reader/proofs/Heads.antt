-- The head of a section, by its bytes.
use Rattle.std.proofs.Common.{◌≡◌, ℕ, ◌+◌, ◌-◌, ◌≤◌, true, List, length, get_or, take, drop, None, sym, refl, ap, ◌∙◌, subst, arith}
use Rattle.std.proofs.lemmas.List.{length-take-le, length-drop}
use Rattle.file_parts.specs.declared.due.Due.{Due}
use Rattle.file_parts.specs.declared.section.Section.{Section}
use Rattle.file_parts.specs.declared.section.Section.TheVariants.{Table, Calls, Note}
use Rattle.file_parts.specs.Kinds.{section_kind_letter}
use Rattle.file_reader.specs.Bytes.{two, Stands}
use Rattle.file_reader.specs.Faults.{its_turn, section_fault}
use Rattle.file_parts.specs.Sections.{letter_of, kind_of, body_of, letter_place}
use Rattle.file_reader.specs.Readers.{HeadRead}
use Rattle.file_reader.proofs.Spelling.{letter_stands}

pub letter_by_kind : (s : Section) → letter_of s ≡ section_kind_letter (kind_of s)
letter_by_kind (Table body at) = refl
letter_by_kind (Calls body at) = refl
letter_by_kind (Note body at) = refl

pub head_read : (f : List ℕ) (p n : ℕ) (due : Due) (s : Section) → section_fault f p due ≡ None → its_turn due (get_or f p 0) ≡ true → Stands f (p + 1) (two n) → p + 3 + n ≤ length f → letter_of s ≡ get_or f p 0 → body_of s ≡ take (p + 3 + n - (p + 3)) (drop (p + 3) f) → letter_place s ≡ p → (get_or f p 0 ≡ 67 → 1 ≤ n) → HeadRead f p due s
head_read f p n due s good turn long inside letter body place some =
    let b : body_of s ≡ take n (drop (p + 3) f) = body ∙ ap (λ k. take k (drop (p + 3) f)) (omega arith) in
    let many : length (body_of s) ≡ n = ap length b ∙ length-take-le n (drop (p + 3) f) (omega (arith, length-drop (p + 3) f, inside)) in
    record {
      good = good;
      stands = letter_stands f p (letter_of s) (two (length (body_of s))) (omega (arith, inside)) letter (subst (λ k. Stands f (p + 1) (two k)) (sym many) long);
      body = subst (λ k. take k (drop (p + 3) f) ≡ body_of s) (sym many) (sym b);
      inside = omega (arith, many, inside);
      placed = place;
      turn = ap (its_turn due) letter ∙ turn;
      some = λ e. omega (arith, many, some (sym letter ∙ e));
    }
