-- Rows and calls, one more after those that were taken.
use Rattle.std.proofs.Common.{◌≡◌, ℕ, ◌+◌, List, [], ◌∷◌, ◌++◌, length, sym, refl, ap, ◌∙◌, subst, arith}
use Rattle.std.specs.List.{flat_map}
use Rattle.std.proofs.lemmas.List.{flat_map_more, length-append}
use Rattle.plan.specs.Rows.{Task}
use Rattle.file_parts.specs.declared.call.Call.{Call}
use Rattle.file_reader.specs.Bytes.{Stands}
use Rattle.file_reader.specs.Grammar.{row_bytes, call_bytes, Taken, GoodCalls, Counts}
use Rattle.file_reader.specs.Steps.{RowTaken, RowsTaken}
use Rattle.file_reader.specs.Readers.{CallsWhole}
use Rattle.file_reader.proofs.Spelling.{append_stands}

-- one more piece of a list that stands in the file
more : {X : Type 0} (b : X → List ℕ) (f : List ℕ) (a p : ℕ) (xs : List X) (x : X) → Stands f a (flat_map b xs) → p ≡ a + length (flat_map b xs) → Stands f p (b x) → Stands f a (flat_map b (xs ++ x ∷ []))
more b f a p xs x s e t = subst (Stands f a) (flat_map_more b [] xs x) (append_stands f a (flat_map b xs) (b x) s (subst (λ q. Stands f q (b x)) e t))

longer : {X : Type 0} (b : X → List ℕ) (xs : List X) (x : X) → length (flat_map b (xs ++ x ∷ [])) ≡ length (flat_map b xs) + length (b x)
longer b xs x = sym (ap length (flat_map_more b [] xs x)) ∙ length-append (flat_map b xs) (b x)

pub no_calls : (f : List ℕ) (p : ℕ) → CallsWhole f p p
no_calls f p = record { calls = []; taken = record { stand = refl; after = omega arith; good = GoodCalls.none } }

pub calls_more : (f : List ℕ) (a p q : ℕ) (c : Call) → CallsWhole f a p → Stands f p (call_bytes c) → Counts c → q ≡ p + length (call_bytes c) → CallsWhole f a q
calls_more f a p q c w s n e =
    let cs = w.calls in
    let t = w.taken in
    record { calls = cs ++ c ∷ []; taken = record { stand = more call_bytes f a p cs c t.stand t.after s; after = omega (arith, e, t.after, longer call_bytes cs c); good = GoodCalls.one_more cs c t.good n } }

pub no_rows : (f : List ℕ) (p : ℕ) (ts : List Task) → ts ≡ [] → RowsTaken f p p ts
no_rows f p ts e = subst (RowsTaken f p p) (sym e) (record { stand = refl; after = omega arith; taken = Taken.none })

pub rows_more : (f : List ℕ) (a p q : ℕ) (ts us : List Task) → RowsTaken f a p ts → RowTaken f p ts q us → RowsTaken f a q us
rows_more f a p q ts us r t = subst (RowsTaken f a q) (sym t.added) (record {
  stand = more row_bytes f a p ts t.task r.stand r.after t.stands;
  after = omega (arith, t.after, r.after, longer row_bytes ts t.task);
  taken = Taken.one_more ts t.task r.taken t.good;
})
