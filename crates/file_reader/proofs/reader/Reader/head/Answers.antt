use Rattle.std.proofs.Common.{◌≡◌, ◌+◌, ◌≤◌, true, length, get_or, None, ap, ◌∙◌, rules}
use Rattle.file_parts.specs.Kinds.{section_kind_letter}
use Rattle.file_parts.specs.Sections.{letter_of}
use Rattle.file_reader.specs.Faults.{its_turn, section_fault}
use Rattle.file_reader.proofs.Heads.{head_read, letter_by_kind}
use Rattle.file_reader.proofs.reader.Reader.head.Goals as goal

pub returns : goal.returns
returns c =
    let f = c.args.self.now.file.now in
    let p = c.args.self.now.cursor.pos in
    let due = c.args.self.now.due in
    let n = c.word-many.result in
    let turn : its_turn due (get_or f p 0) ≡ true = search rules in
    let inside : p + 3 + n ≤ length f = search rules in
    let good : section_fault f p due ≡ None = search rules in
    let some : get_or f p 0 ≡ 67 → 1 ≤ n = search rules in
    let told : section_kind_letter c.in_ok-kind.kind ≡ get_or f p 0 = search rules in
    let letter : letter_of c.section_of.result ≡ get_or f p 0 = letter_by_kind c.section_of.result ∙ ap section_kind_letter c.section_of.ensures.kind ∙ told in
    head_read f p n due c.section_of.result good turn c.word-many.ensures.stands inside letter c.section_of.ensures.body c.section_of.ensures.place some
