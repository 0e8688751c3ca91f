use Rattle.std.proofs.Common.{◌≡◌, ◌+◌, ◌-◌, ◌/◌, ◌%◌, ◌≤◌, ◌++◌, ◌∷◌, [], drop, set, sym, ap, ◌∙◌, arith}
use Rattle.std.proofs.lemmas.List.{append_assoc, length-set, drop-set}
use Rattle.line_text.specs.Decimals.{digits}
use Rattle.line_text.proofs.Told.{told_digits}
use Rattle.line_text.proofs.Spelled.{place_left, spelled_more}
use Rattle.line_text.proofs.telling.put_number.Goals as goal

pub overflow_sub-at : goal.overflow_sub-at
overflow_sub-at c =
    place_left c.args.number c.loop-rest.rest c.loop-rest.at c.loop-rest.bytes (omega arith) (omega arith) c.loop-rest.invariant.0 (omega arith) c.loop-rest.invariant.2

pub loop-rest-preserved : goal.loop-rest-preserved
loop-rest-preserved c =
    let rest = c.loop-rest.rest in
    let at = c.loop-rest.at in
    let bytes = c.loop-rest.bytes in
    let digit = 48 + rest % 10 in
    let behind = drop (at + 1) bytes in
    let left : 1 ≤ at = place_left c.args.number rest at bytes (omega arith) (omega arith) c.loop-rest.invariant.0 (omega arith) c.loop-rest.invariant.2 in
    let next : at - 1 + 1 ≡ at = omega arith in
    let written : drop (at - 1 + 1) (set bytes at digit) ≡ digit ∷ behind = ap (λ k. drop k (set bytes at digit)) next ∙ drop-set bytes at digit (omega (arith, c.loop-rest.invariant.0)) in (
      length-set bytes at digit ∙ c.loop-rest.invariant.0,
      omega arith,
      ap (λ l. digits (rest / 10) ++ l) written ∙ sym (append_assoc (digits (rest / 10)) (digit ∷ []) behind) ∙ ap (λ l. l ++ behind) (sym (spelled_more rest (omega arith))) ∙ c.loop-rest.invariant.2,
    )

pub returns : goal.returns
returns c =
    told_digits c.args.number c.loop-rest.rest c.loop-rest.at _ c.loop-rest.bytes c.put.ensures.put c.loop-rest.invariant.2 (omega arith) (omega arith) c.loop-rest.invariant.0 (omega arith)
