-- Bytes that stand in a file, as they are read there.
use Rattle.std.proofs.Common.{◌≡◌, ℕ, suc, ◌+◌, ◌-◌, ◌*◌, ◌/◌, ◌%◌, ◌<◌, ◌≤◌, List, [], ◌∷◌, ◌++◌, length, get_or, take, drop, sym, refl, ap, ◌∙◌, subst, arith}
use Rattle.std.proofs.lemmas.List.{drop_more, length-append, take-append-drop, take-take, drop-drop, drop-take, get_or-take, get_or-drop}
use Rattle.plan.specs.Rows.{Task}
use Rattle.file_parts.specs.declared.settings.Settings.{Settings}
use Rattle.file_reader.specs.Bytes.{two, four, word_at, Stands}
use Rattle.file_reader.specs.Grammar.{header, row_bytes}

-- one byte, and what follows it
pub first_of : (f : List ℕ) (p n : ℕ) → p < length f → take (suc n) (drop p f) ≡ get_or f p 0 ∷ take n (drop (p + 1) f)
first_of f p n h = ap (take (suc n)) (drop_more f p 0 h)

pub take_two : (f : List ℕ) (p : ℕ) → p + 2 ≤ length f → take 2 (drop p f) ≡ get_or f p 0 ∷ get_or f (p + 1) 0 ∷ []
take_two f p h = first_of f p 1 (omega arith) ∙ ap (λ l. get_or f p 0 ∷ l) (first_of f (p + 1) 0 (omega arith))

pub two_of : (a b : ℕ) → b < 256 → two (a * 256 + b) ≡ a ∷ b ∷ []
two_of a b h =
    let q : (a * 256 + b) / 256 ≡ a = omega arith in
    let r : (a * 256 + b) % 256 ≡ b = omega arith in
    ap (λ x. x ∷ (a * 256 + b) % 256 ∷ []) q ∙ ap (λ x. a ∷ x ∷ []) r

-- two bytes stand where they are read
pub word_stands : (f : List ℕ) (p : ℕ) → p + 2 ≤ length f → get_or f (p + 1) 0 < 256 → Stands f p (two (word_at f p))
word_stands f p h b = take_two f p h ∙ sym (two_of (get_or f p 0) (get_or f (p + 1) 0) b)

-- a letter and what follows it
pub letter_stands : (f : List ℕ) (p a : ℕ) (bytes : List ℕ) → p < length f → a ≡ get_or f p 0 → Stands f (p + 1) bytes → Stands f p (a ∷ bytes)
letter_stands f p a bytes h e s = first_of f p (length bytes) h ∙ ap (λ x. x ∷ take (length bytes) (drop (p + 1) f)) (sym e) ∙ ap (λ l. a ∷ l) s

pub byte_stands : (f : List ℕ) (p : ℕ) → p < length f → Stands f p (get_or f p 0 ∷ [])
byte_stands f p h = first_of f p 0 h

pub take_add : (m n : ℕ) (l : List ℕ) → take (m + n) l ≡ take m l ++ take n (drop m l)
take_add m n l = sym (take-append-drop m (take (m + n) l)) ∙ ap (λ k. k ++ drop m (take (m + n) l)) (take-take m (m + n) l (omega arith)) ∙ ap (λ k. take m l ++ k) (drop-take m n l)

pub append_stands : (f : List ℕ) (p : ℕ) (xs ys : List ℕ) → Stands f p xs → Stands f (p + length xs) ys → Stands f p (xs ++ ys)
append_stands f p xs ys s t =
    ap (λ n. take n (drop p f)) (length-append xs ys) ∙ take_add (length xs) (length ys) (drop p f) ∙ ap (λ l. l ++ take (length ys) (drop (length xs) (drop p f))) s ∙ ap (λ l. xs ++ take (length ys) l) (drop-drop (length xs) p f) ∙ ap (λ l. xs ++ l) t

-- a row, by its fields
pub row_stands : (f : List ℕ) (p : ℕ) (t : Task) → Stands f p (four t.budget) → Stands f (p + 4) (four t.period) → p + 8 < length f → length t.name ≡ get_or f (p + 8) 0 → Stands f (p + 9) t.name → Stands f p (row_bytes t)
row_stands f p t b d h e n =
    append_stands f p (four t.budget ++ four t.period) (length t.name ∷ t.name)
    (append_stands f p (four t.budget) (four t.period) b d)
    (letter_stands f (p + 8) (length t.name) t.name h e (subst (λ q. Stands f q t.name) (omega arith) n))

pub row_bytes_length : (t : Task) → length (row_bytes t) ≡ 9 + length t.name
row_bytes_length t = omega arith

-- a header, by its bytes
pub header_stands : (f : List ℕ) (h : Settings) → 8 ≤ length f → get_or f 0 0 ≡ 78 → get_or f 1 0 ≡ 80 → get_or f 2 0 ≡ 70 → get_or f 3 0 ≡ 0 → get_or f 4 0 ≡ 1 → h.processors ≡ get_or f 5 0 → h.delta ≡ get_or f 6 0 → h.letter ≡ get_or f 7 0 → Stands f 0 (header h)
header_stands f h l a b c d e m n o =
    letter_stands f 0 78 (80 ∷ 70 ∷ 0 ∷ 1 ∷ h.processors ∷ h.delta ∷ h.letter ∷ []) (omega arith) (sym a)
    (letter_stands f 1 80 (70 ∷ 0 ∷ 1 ∷ h.processors ∷ h.delta ∷ h.letter ∷ []) (omega arith) (sym b)
    (letter_stands f 2 70 (0 ∷ 1 ∷ h.processors ∷ h.delta ∷ h.letter ∷ []) (omega arith) (sym c)
    (letter_stands f 3 0 (1 ∷ h.processors ∷ h.delta ∷ h.letter ∷ []) (omega arith) (sym d)
    (letter_stands f 4 1 (h.processors ∷ h.delta ∷ h.letter ∷ []) (omega arith) (sym e)
    (letter_stands f 5 h.processors (h.delta ∷ h.letter ∷ []) (omega arith) m
    (letter_stands f 6 h.delta (h.letter ∷ []) (omega arith) n
    (letter_stands f 7 h.letter [] (omega arith) o refl)))))))

-- a byte of what follows the version
pub rest_byte : (f : List ℕ) (i : ℕ) → 5 + i < length f → get_or (take (length f - 5) (drop 5 f)) i 0 ≡ get_or f (5 + i) 0
rest_byte f i h = get_or-take (length f - 5) (drop 5 f) i 0 (omega arith) ∙ get_or-drop 5 f i 0
