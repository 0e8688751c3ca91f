-- Where a piece of a file ends is told by the piece: no bytes begin with two pieces of a kind.
use Rattle.std.proofs.Common.{◌≡◌, ℕ, ◌/◌, ◌%◌, ◌≤◌, List, [], ◌∷◌, ◌++◌, length, sym, refl, ap, ◌∙◌, arith}
use Rattle.std.specs.List.{flat_map}
use Rattle.std.proofs.lemmas.List.{append_assoc, append-nil, length-append}
use Rattle.plan.specs.Rows.{Task}
use Rattle.file_parts.specs.declared.call.Call.{Call}
use Rattle.file_parts.specs.declared.call.Call.TheVariants.{Request, Done, Ticks}
use Rattle.file_parts.specs.declared.settings.Settings.{Settings}
use Rattle.file_reader.specs.Bytes.{two, four}
use Rattle.file_reader.specs.Grammar.{table_part, calls_part, note_part, header, section, row_bytes, call_bytes, part_bytes}

-- a spelling whose pieces end where they say
abbrev pub Delimited : {X : Type 0} → (X → List ℕ) → Type 0
Delimited {X} b = (x y : X) (r s : List ℕ) → b x ++ r ≡ b y ++ s → (x ≡ y) × (r ≡ s)

pub head_same : (a b : ℕ) (r s : List ℕ) → a ∷ r ≡ b ∷ s → (a ≡ b) × (r ≡ s)
head_same a b r s e = (cc, cc)

pub two_delimited : Delimited two
two_delimited m n r s e =
    let high : m / 256 ≡ n / 256 = cc in
    let low : m % 256 ≡ n % 256 = cc in
    (omega arith, cc)

four_delimited : Delimited four
four_delimited m n r s e =
    let high = two_delimited (m / 65536) (n / 65536) (two (m % 65536) ++ r) (two (n % 65536) ++ s) e in
    let low = two_delimited (m % 65536) (n % 65536) r s high.1 in
    (omega (arith, high.0, low.0), low.1)

-- two fronts of the same length
pub fronts_same : (a b r s : List ℕ) → length a ≡ length b → a ++ r ≡ b ++ s → (a ≡ b) × (r ≡ s)
fronts_same [] [] r s l e = (refl, e)
fronts_same [] (y ∷ b) r s l e = absurd (omega arith)
fronts_same (x ∷ a) [] r s l e = absurd (omega arith)
fronts_same (x ∷ a) (y ∷ b) r s l e =
    let h = head_same x y (a ++ r) (b ++ s) e in
    let t = fronts_same a b r s (omega arith) h.1 in
    (ap (λ z. z ∷ a) h.0 ∙ ap (λ z. y ∷ z) t.0, t.1)

settings_same : (g h : Settings) → g.processors ≡ h.processors → g.delta ≡ h.delta → g.letter ≡ h.letter → g ≡ h
settings_same g h p d l =
    ap (λ x. record { processors = x; delta = g.delta; letter = g.letter }) p
    ∙ ap (λ x. record { processors = h.processors; delta = x; letter = g.letter }) d
    ∙ ap (λ x. record { processors = h.processors; delta = h.delta; letter = x }) l

pub header_delimited : Delimited header
header_delimited g h r s e = (settings_same g h (cc) (cc) (cc), cc)

pub task_same : (t u : Task) → t.budget ≡ u.budget → t.period ≡ u.period → t.name ≡ u.name → t ≡ u
task_same t u b p n =
    ap (λ x. record { budget = x; period = t.period; name = t.name }) b
    ∙ ap (λ x. record { budget = u.budget; period = x; name = t.name }) p
    ∙ ap (λ x. record { budget = u.budget; period = u.period; name = x }) n

pub row_delimited : Delimited row_bytes
row_delimited t u r s e =
    let b = four_delimited t.budget u.budget (four t.period ++ (length t.name ∷ t.name ++ r)) (four u.period ++ (length u.name ∷ u.name ++ s)) e in
    let p = four_delimited t.period u.period (length t.name ∷ t.name ++ r) (length u.name ∷ u.name ++ s) b.1 in
    let l = head_same (length t.name) (length u.name) (t.name ++ r) (u.name ++ s) p.1 in
    let n = fronts_same t.name u.name r s l.0 l.1 in
    (task_same t u b.0 p.0 n.0, n.1)

apart : (a b : ℕ) (r s : List ℕ) → (a ≡ b → ⊥) → a ∷ r ≡ b ∷ s → ⊥
apart a b r s n e = n (head_same a b r s e).0

pub call_delimited : Delimited call_bytes
call_delimited (Request a) (Request b) r s e = (ap Request (let h : a ≡ b = cc in h), cc)
call_delimited (Request a) (Done b) r s e = absurd (apart 82 68 _ _ (λ z. omega arith) e)
call_delimited (Request a) (Ticks b) r s e = absurd (apart 82 75 _ _ (λ z. omega arith) e)
call_delimited (Done a) (Request b) r s e = absurd (apart 68 82 _ _ (λ z. omega arith) e)
call_delimited (Done a) (Done b) r s e = (ap Done (let h : a ≡ b = cc in h), cc)
call_delimited (Done a) (Ticks b) r s e = absurd (apart 68 75 _ _ (λ z. omega arith) e)
call_delimited (Ticks a) (Request b) r s e = absurd (apart 75 82 _ _ (λ z. omega arith) e)
call_delimited (Ticks a) (Done b) r s e = absurd (apart 75 68 _ _ (λ z. omega arith) e)
call_delimited (Ticks a) (Ticks b) r s e =
    let n = two_delimited a b r s (head_same 75 75 (two a ++ r) (two b ++ s) e).1 in
    (ap Ticks n.0, n.1)

-- two lists of pieces at the front of the same bytes: one goes on where the other ends
pub data Compared {X : Type 0} (b : X → List ℕ) (xs ys : List X) (r s : List ℕ) : Type 0 where
  longer : (zs : List X) → ys ≡ xs ++ zs → r ≡ flat_map b zs ++ s → Compared b xs ys r s
  shorter : (zs : List X) → xs ≡ ys ++ zs → s ≡ flat_map b zs ++ r → Compared b xs ys r s

module _ {X : Type 0} (b : X → List ℕ) (d : Delimited b) where
  onward : (x y : X) (xs ys : List X) (r s : List ℕ) → x ≡ y → Compared b xs ys r s → Compared b (x ∷ xs) (y ∷ ys) r s
  onward x y xs ys r s e (longer zs p q) = longer zs (ap (λ l. y ∷ l) p ∙ ap (λ z. z ∷ xs ++ zs) (sym e)) q
  onward x y xs ys r s e (shorter zs p q) = shorter zs (ap (λ l. x ∷ l) p ∙ ap (λ z. z ∷ ys ++ zs) e) q

  pub compared : (xs ys : List X) (r s : List ℕ) → flat_map b xs ++ r ≡ flat_map b ys ++ s → Compared b xs ys r s
  compared [] ys r s e = longer ys refl e
  compared (x ∷ xs) [] r s e = shorter (x ∷ xs) refl (sym e)
  compared (x ∷ xs) (y ∷ ys) r s e =
      let h = d x y (flat_map b xs ++ r) (flat_map b ys ++ s) (sym (append_assoc (b x) (flat_map b xs) r) ∙ e ∙ append_assoc (b y) (flat_map b ys) s) in
      onward x y xs ys r s h.0 (compared xs ys r s h.1)

  -- pieces that are not empty, and fill the same bytes
  module _ (some : (x : X) → 1 ≤ length (b x)) where
    none_left : (xs zs : List X) → [] ≡ flat_map b zs ++ [] → xs ++ zs ≡ xs
    none_left xs [] e = append-nil xs
    none_left xs (z ∷ zs) e =
        absurd (omega (arith, some z, ap length e, length-append (b z ++ flat_map b zs) [], length-append (b z) (flat_map b zs)))

    ended : (xs ys : List X) → Compared b xs ys [] [] → xs ≡ ys
    ended xs ys (longer zs p q) = sym (p ∙ none_left xs zs q)
    ended xs ys (shorter zs p q) = p ∙ none_left ys zs q

    pub joined_same : (xs ys : List X) → flat_map b xs ≡ flat_map b ys → xs ≡ ys
    joined_same xs ys e = ended xs ys (compared xs ys [] [] (append-nil (flat_map b xs) ∙ e ∙ sym (append-nil (flat_map b ys))))

-- no row and no call is empty
pub row_some : (t : Task) → 1 ≤ length (row_bytes t)
row_some t = omega arith

pub call_some : (c : Call) → 1 ≤ length (call_bytes c)
call_some (Request task) = omega arith
call_some (Done task) = omega arith
call_some (Ticks count) = omega arith

pub calls_some : (cs : List Call) → 1 ≤ length cs → 1 ≤ length (flat_map call_bytes cs)
calls_some [] l = l
calls_some (c ∷ cs) l = omega (arith, call_some c, length-append (call_bytes c) (flat_map call_bytes cs))

-- a section ends where its length says, so its letter and body are told
pub section_delimited : (a b : ℕ) (xs ys r s : List ℕ) → section a xs ++ r ≡ section b ys ++ s → (a ≡ b) × (xs ≡ ys) × (r ≡ s)
section_delimited a b xs ys r s e =
    let h = head_same a b (two (length xs) ++ (xs ++ r)) (two (length ys) ++ (ys ++ s)) e in
    let l = two_delimited (length xs) (length ys) (xs ++ r) (ys ++ s) h.1 in
    let n = fronts_same xs ys r s l.0 l.1 in
    (h.0, n.0, n.1)

pub part_delimited : Delimited part_bytes
part_delimited (table_part ts) (table_part us) r s e =
    let n = section_delimited 84 84 (flat_map row_bytes ts) (flat_map row_bytes us) r s e in
    (ap table_part (joined_same row_bytes row_delimited row_some ts us n.1), n.2)
part_delimited (table_part ts) (calls_part ds) r s e = absurd (apart 84 67 _ _ (λ z. omega arith) e)
part_delimited (table_part ts) (note_part bytes) r s e = absurd (apart 84 78 _ _ (λ z. omega arith) e)
part_delimited (calls_part cs) (table_part us) r s e = absurd (apart 67 84 _ _ (λ z. omega arith) e)
part_delimited (calls_part cs) (calls_part ds) r s e =
    let n = section_delimited 67 67 (flat_map call_bytes cs) (flat_map call_bytes ds) r s e in
    (ap calls_part (joined_same call_bytes call_delimited call_some cs ds n.1), n.2)
part_delimited (calls_part cs) (note_part bytes) r s e = absurd (apart 67 78 _ _ (λ z. omega arith) e)
part_delimited (note_part xs) (table_part us) r s e = absurd (apart 78 84 _ _ (λ z. omega arith) e)
part_delimited (note_part xs) (calls_part ds) r s e = absurd (apart 78 67 _ _ (λ z. omega arith) e)
part_delimited (note_part xs) (note_part ys) r s e =
    let n = section_delimited 78 78 xs ys r s e in
    (ap note_part n.1, n.2)
