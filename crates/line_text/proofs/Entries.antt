-- The entries of a row, one by one.
use Rattle.std.proofs.Common.{◌≡◌, ℕ, suc, ◌+◌, ◌*◌, ◌/◌, ◌%◌, ◌<◌, ◌≤◌, true, false, if◌then◌else◌, ◌==◌, cond, ◌≢◌, List, [], ◌∷◌, ◌++◌, length, get_or, take, drop, codes, sym, refl, ap, ◌∙◌, arith, ne_eqb}
use Rattle.std.specs.List.{flat_map}
use Rattle.std.proofs.lemmas.List.{append_assoc, length-append, take-append-drop}
use Rattle.line_text.specs.Decimals.{digits}
use Rattle.line_text.specs.Texts.{entry, field}
use Rattle.line_text.proofs.Spelled.{few_digits, spelled_one, spelled_more}

-- a byte has three digits at most
entry_short : (e : ℕ) → e < 256 → length (entry e) ≤ 4
entry_short e h = elim (e == 255) as (λ idle. length (if idle then codes " -" else field " " e) ≤ 4) [ true ↦ omega arith | false ↦ omega (arith, few_digits 3 e (omega arith) (omega arith)) ]

pub entries_short : (row : List ℕ) → ((i : ℕ) → get_or row i 0 < 256) → length (flat_map entry row) ≤ 4 * length row
entries_short [] h = omega arith
entries_short (e ∷ es) h = omega (arith, length-append (entry e) (flat_map entry es), entry_short e (h 0), entries_short es (λ i. h (suc i)))

-- a processor that is not idle
pub entry_task : (e : ℕ) → e ≢ 255 → entry e ≡ 32 ∷ digits e
entry_task e h = ap (λ idle. cond idle (codes " -") (field " " e)) (ne_eqb e 255 h)

-- such an entry by one, two or three digits
pub entry_ones : (e : ℕ) → e < 10 → entry e ≡ 32 ∷ (48 + e % 10) ∷ []
entry_ones e h =
    let self : e ≡ e % 10 = omega arith in
    entry_task e (λ idle. absurd (omega (arith, h, idle))) ∙ ap (λ l. 32 ∷ l) (spelled_one e h) ∙ ap (λ d. 32 ∷ (48 + d) ∷ []) self

pub entry_tens : (e : ℕ) → e ≢ 255 → 10 ≤ e → e < 100 → entry e ≡ 32 ∷ (48 + e / 10 % 10) ∷ (48 + e % 10) ∷ []
entry_tens e task some h =
    let self : e / 10 ≡ e / 10 % 10 = omega arith in
    entry_task e task ∙ ap (λ l. 32 ∷ l) (spelled_more e some) ∙ ap (λ l. 32 ∷ (l ++ ((48 + e % 10) ∷ []))) (spelled_one (e / 10) (omega arith)) ∙ ap (λ d. 32 ∷ (48 + d) ∷ (48 + e % 10) ∷ []) self

pub entry_hundreds : (e : ℕ) → e ≢ 255 → 100 ≤ e → e < 1000 → entry e ≡ 32 ∷ (48 + e / 100) ∷ (48 + e / 10 % 10) ∷ (48 + e % 10) ∷ []
entry_hundreds e task some h =
    let same : e / 10 / 10 ≡ e / 100 = omega arith in
    entry_task e task ∙ ap (λ l. 32 ∷ l) (spelled_more e (omega arith)) ∙ ap (λ l. 32 ∷ (l ++ ((48 + e % 10) ∷ []))) (spelled_more (e / 10) (omega arith) ∙ ap (λ l. l ++ ((48 + e / 10 % 10) ∷ [])) (spelled_one (e / 10 / 10) (omega arith))) ∙ ap (λ d. 32 ∷ (48 + d) ∷ (48 + e / 10 % 10) ∷ (48 + e % 10) ∷ []) same

joined_append : (xs ys : List ℕ) → flat_map entry (xs ++ ys) ≡ flat_map entry xs ++ flat_map entry ys
joined_append [] ys = refl
joined_append (x ∷ xs) ys = ap (λ l. entry x ++ l) (joined_append xs ys) ∙ sym (append_assoc (entry x) (flat_map entry xs) (flat_map entry ys))

-- the first entries are no longer than all
pub entries_within : (row : List ℕ) (i : ℕ) → length (flat_map entry (take i row)) ≤ length (flat_map entry row)
entries_within row i =
    let whole : length (flat_map entry row) ≡ length (flat_map entry (take i row)) + length (flat_map entry (drop i row)) = ap (λ l. length (flat_map entry l)) (sym (take-append-drop i row)) ∙ ap length (joined_append (take i row) (drop i row)) ∙ length-append (flat_map entry (take i row)) (flat_map entry (drop i row)) in
    omega (arith, whole)
