-- Pieces behind which no whole piece stands go as far as any others do: so rows and calls come to one fault.
use Rattle.std.proofs.Common.{◌≡◌, ℕ, ◌+◌, ◌<◌, ◌≤◌, List, [], ◌∷◌, ◌++◌, length, drop, Some, None, Option, sym, refl, ap, ◌∙◌, subst, arith}
use Rattle.std.specs.List.{flat_map}
use Rattle.std.proofs.lemmas.List.{append_assoc, append-nil, length-append, drop-drop, drop_at, nil_from_length}
use Rattle.plan.specs.Rows.{Task}
use Rattle.file_parts.specs.declared.call.Call.{Call}
use Rattle.file_parts.specs.declared.fault.Fault.{Fault}
use Rattle.file_reader.specs.Grammar.{Taken, GoodCalls, row_bytes, call_bytes}
use Rattle.file_reader.specs.Faults.{refused, row_fault, call_fault}
use Rattle.file_reader.specs.Steps.{RowsTaken, CallsTaken}
use Rattle.file_reader.proofs.InTurn.{RowsAfter, rows_split, taken_rows, AllCount, counts_split, good_counts}
use Rattle.file_reader.proofs.Delimited.{Delimited, row_delimited, call_delimited, Compared, longer, shorter, compared}
use Rattle.file_reader.proofs.Clean.{stands_front, row_clean, call_clean}

-- a fault is told once
pub never_both : (o : Option Fault) (e : Fault) → o ≡ Some e → o ≡ None → ⊥
never_both o e x y = let z : ◌≡◌ {A = ℕ} 0 1 = cc in omega arith

pub same_fault : (o : Option Fault) (x y : Fault) → o ≡ Some x → o ≡ Some y → x ≡ y
same_fault o x y p q = cc

-- lists that go on from each other
pub each_longer : {X : Type 0} (xs ys zs ws : List X) → xs ≡ ys ++ zs → ys ≡ xs ++ ws → xs ≡ ys
each_longer xs ys zs ws p q =
    p ∙ ap (λ l. ys ++ l) (nil_from_length zs (omega (arith, ap length p, ap length q, length-append ys zs, length-append xs ws))) ∙ append-nil ys

module _ {X : Type 0} (b : X → List ℕ) where
  joined_append : (xs ys : List X) → flat_map b (xs ++ ys) ≡ flat_map b xs ++ flat_map b ys
  joined_append [] ys = refl
  joined_append (x ∷ xs) ys = ap (λ l. b x ++ l) (joined_append xs ys) ∙ sym (append_assoc (b x) (flat_map b xs) (flat_map b ys))

  pub joined_length : (xs ys zs : List X) → xs ≡ ys ++ zs → length (flat_map b xs) ≡ length (flat_map b ys) + length (flat_map b zs)
  joined_length xs ys zs e = ap (λ l. length (flat_map b l)) e ∙ ap length (joined_append ys zs) ∙ length-append (flat_map b ys) (flat_map b zs)

  -- pieces xs behind which no whole piece stands go as far as any others
  module _ (d : Delimited b) (f : List ℕ) (p end : ℕ) (xs ys : List X) (s r : List ℕ) (here : drop p f ≡ flat_map b xs ++ s) (there : drop p f ≡ flat_map b ys ++ r) (fits : p + length (flat_map b ys) ≤ end) where
    abbrev pub Another : Type 0
    Another = (z : X) (zs : List X) (t : List ℕ) → ys ≡ xs ++ z ∷ zs → drop (p + length (flat_map b xs)) f ≡ b z ++ t → p + length (flat_map b xs) + length (b z) ≤ end → ⊥

    by_lists : Another → Compared b xs ys s r → (zs : List X) × (xs ≡ ys ++ zs)
    by_lists stop (shorter zs e t) = (zs, e)
    by_lists stop (longer [] e t) = ([], sym (append-nil xs) ∙ sym e ∙ sym (append-nil ys))
    by_lists stop (longer (z ∷ zs) e t) = absurd (stop z zs (flat_map b zs ++ r) e
        (sym (drop-drop (length (flat_map b xs)) p f) ∙ ap (drop (length (flat_map b xs))) here ∙ drop_at (flat_map b xs) s (length (flat_map b xs)) refl ∙ t ∙ append_assoc (b z) (flat_map b zs) r)
        (omega (arith, joined_length ys xs (z ∷ zs) e, length-append (b z) (flat_map b zs))))

    pub furthest : Another → (zs : List X) × (xs ≡ ys ++ zs)
    furthest stop = by_lists stop (compared b d xs ys s r (sym here ∙ there))

-- rows up to a row's fault
module _ (f : List ℕ) (p q end : ℕ) (e : Fault) (ts : List Task) (k : RowsTaken f p q ts) (fault : row_fault f q end (length ts) ≡ Some e) where
  pub rows_furthest : (us : List Task) (r : List ℕ) → drop p f ≡ flat_map row_bytes us ++ r → p + length (flat_map row_bytes us) ≤ end → Taken us → (zs : List Task) × (ts ≡ us ++ zs)
  rows_furthest us r there fits taken =
      furthest row_bytes row_delimited f p end ts us (drop (length (flat_map row_bytes ts)) (drop p f)) r (stands_front f p (flat_map row_bytes ts) k.stand) there fits
      (λ z zs t same front within.
      let good : refused z (length ts) ≡ None = subst (λ n. refused z n ≡ None) (omega arith) (rows_split 0 ts (z ∷ zs) (subst (RowsAfter 0) same (taken_rows us taken))).0 in
      never_both (row_fault f q end (length ts)) e fault
      (subst (λ x. row_fault f x end (length ts) ≡ None) (sym k.after) (row_clean f (p + length (flat_map row_bytes ts)) z t front end (length ts) within good)))

-- calls up to a call's fault
module _ (f : List ℕ) (p q end : ℕ) (e : Fault) (cs : List Call) (k : CallsTaken f p q cs) (fault : call_fault f q end ≡ Some e) where
  pub calls_furthest : (ds : List Call) (r : List ℕ) → drop p f ≡ flat_map call_bytes ds ++ r → p + length (flat_map call_bytes ds) ≤ end → GoodCalls ds → (zs : List Call) × (cs ≡ ds ++ zs)
  calls_furthest ds r there fits good =
      furthest call_bytes call_delimited f p end cs ds (drop (length (flat_map call_bytes cs)) (drop p f)) r (stands_front f p (flat_map call_bytes cs) k.stand) there fits
      (λ z zs t same front within.
      never_both (call_fault f q end) e fault
      (subst (λ x. call_fault f x end ≡ None) (sym k.after) (call_clean f (p + length (flat_map call_bytes cs)) z t front end within (counts_split cs (z ∷ zs) (subst AllCount same (good_counts ds good))).0)))

-- two rows at fault in a section are one, and so are two calls
pub rows_same : (f : List ℕ) (p end q q' : ℕ) (x y : Fault) (ts us : List Task) → RowsTaken f p q ts → q < end → row_fault f q end (length ts) ≡ Some x → RowsTaken f p q' us → q' < end → row_fault f q' end (length us) ≡ Some y → x ≡ y
rows_same f p end q q' x y ts us k l a k' l' a' =
    let on = rows_furthest f p q end x ts k a us (drop (length (flat_map row_bytes us)) (drop p f)) (stands_front f p (flat_map row_bytes us) k'.stand) (omega (arith, k'.after)) k'.taken in
    let back = rows_furthest f p q' end y us k' a' ts (drop (length (flat_map row_bytes ts)) (drop p f)) (stands_front f p (flat_map row_bytes ts) k.stand) (omega (arith, k.after)) k.taken in
    let same : ts ≡ us = each_longer ts us on.0 back.0 on.1 back.1 in
    let place : q ≡ q' = k.after ∙ ap (λ l. p + length (flat_map row_bytes l)) same ∙ sym k'.after in
    same_fault (row_fault f q end (length ts)) x y a (ap (λ n. row_fault f n end (length ts)) place ∙ ap (λ l. row_fault f q' end (length l)) same ∙ a')

pub calls_same : (f : List ℕ) (p end q q' : ℕ) (x y : Fault) (cs ds : List Call) → CallsTaken f p q cs → q < end → call_fault f q end ≡ Some x → CallsTaken f p q' ds → q' < end → call_fault f q' end ≡ Some y → x ≡ y
calls_same f p end q q' x y cs ds k l a k' l' a' =
    let on = calls_furthest f p q end x cs k a ds (drop (length (flat_map call_bytes ds)) (drop p f)) (stands_front f p (flat_map call_bytes ds) k'.stand) (omega (arith, k'.after)) k'.good in
    let back = calls_furthest f p q' end y ds k' a' cs (drop (length (flat_map call_bytes cs)) (drop p f)) (stands_front f p (flat_map call_bytes cs) k.stand) (omega (arith, k.after)) k.good in
    let same : cs ≡ ds = each_longer cs ds on.0 back.0 on.1 back.1 in
    let place : q ≡ q' = k.after ∙ ap (λ l. p + length (flat_map call_bytes l)) same ∙ sym k'.after in
    same_fault (call_fault f q end) x y a (ap (λ n. call_fault f n end) place ∙ a')
