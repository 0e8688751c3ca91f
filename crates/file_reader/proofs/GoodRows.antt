-- Rows that a table takes: what their names and numbers are, and how long they are in a file.
use Rattle.std.proofs.Common.{◌≡◌, ℕ, suc, ◌+◌, ◌*◌, ◌<◌, ◌≤◌, Bool, true, false, cond, eqb, ltb, List, [], ◌∷◌, length, Some, None, Option, sym, refl, ap, ◌∙◌, ⊎_elim, arith}
use Rattle.std.specs.List.{flat_map, slice_get}
use Rattle.std.proofs.lemmas.List.{length-append}
use Rattle.std.proofs.lemmas.Bool.{cases_Bool, or_parts, ltb-true, ltb-false, eqb-false, lt-ltb, le-ltb, ne_eqb, cond-true, cond-false}
use Rattle.plan.specs.declared.refusal.RowRefusal.{RowRefusal}
use Rattle.plan.specs.declared.refusal.RowRefusal.TheVariants.{BudgetAbovePeriod, TableFull}
use Rattle.plan.specs.declared.table.Table.{Table}
use Rattle.plan.specs.Rows.{Task, name_refusal, number_refusal, first_of}
use Rattle.plan.specs.Laws.{GoodRow}
use Rattle.plan.specs.Views.{tasks}
use Rattle.plan.proofs.Rowing.{tasks_count, rows_kept}
use Rattle.file_reader.specs.Grammar.{Taken, row_bytes}
use Rattle.file_reader.specs.Faults.{refused}
use Rattle.file_reader.proofs.InTurn.{RowsAfter, taken_rows, rows_taken}

-- a refusal that does not apply
never_refused : {X : Type 0} (e : X) → Some e ≡ None → ⊥
never_refused e z = let n : ◌≡◌ {A = ℕ} 0 1 = cc in omega arith

passed : {X : Type 0} (b : Bool) (e : X) (o : Option X) → cond b (Some e) o ≡ None → (b ≡ false) × (o ≡ None)
passed true e o z = absurd (never_refused e z)
passed false e o z = (refl, z)

both_passed : (a b : Option RowRefusal) → first_of a b ≡ None → (a ≡ None) × (b ≡ None)
both_passed None b z = (refl, z)
both_passed (Some e) b z = absurd (never_refused e z)

module _ (t : Task) (k : ℕ) (good : refused t k ≡ None) where
  named : (eqb (length t.name) 0 ≡ false) × (ltb 16 (length t.name) ≡ false)
  named = or_parts (eqb (length t.name) 0) (ltb 16 (length t.name)) (passed _ _ _ (both_passed _ _ good).0).0

  pub good_name : (1 ≤ length t.name) × (length t.name ≤ 16)
  good_name =
      let some : length t.name ≡ 0 → ⊥ = eqb-false (length t.name) 0 named.0 in
      (omega (arith, some), ltb-false 16 (length t.name) named.1)

  pub good_place : k < 64
  good_place = ⊎_elim
      (λ (e : ltb k 64 ≡ true). ltb-true k 64 e)
      (λ (e : ltb k 64 ≡ false). absurd (never_refused TableFull (sym (cond-false (ltb k 64) None (Some TableFull) e) ∙ (both_passed (number_refusal t.budget t.period) (cond (ltb k 64) None (Some TableFull)) (both_passed (name_refusal t.name) _ good).1).1)))
      (cases_Bool (ltb k 64))

-- 9 bytes and a name of at most 16 for each row
rows_within : (k : ℕ) (ts : List Task) → k ≤ 64 → RowsAfter k ts → length (flat_map row_bytes ts) + 25 * k ≤ 1600
rows_within k [] l a = omega arith
rows_within k (t ∷ ts) l a =
    omega (arith, length-append (row_bytes t) (flat_map row_bytes ts), (good_name t k a.0).1, rows_within (k + 1) ts (omega (arith, good_place t k a.0)) a.1)

pub rows_short : (ts : List Task) → Taken ts → length (flat_map row_bytes ts) ≤ 1600
rows_short ts k = omega (arith, rows_within 0 ts (omega arith) (taken_rows ts k))

-- a table takes the rows of a table
accepted : (t : Task) (k : ℕ) → GoodRow t → k < 64 → refused t k ≡ None
accepted t k g l =
    ap (λ o. first_of o (first_of (number_refusal t.budget t.period) (cond (ltb k 64) None (Some TableFull)))) g.name
    ∙ ap (λ o. first_of o (cond (ltb k 64) None (Some TableFull))) numbers
    ∙ cond-true (ltb k 64) None (Some TableFull) (lt-ltb k 64 l)
  where
    numbers : number_refusal t.budget t.period ≡ None
    numbers =
        cond-false (eqb t.budget 0) _ _ (ne_eqb t.budget 0 (λ e. omega (arith, g.some)))
        ∙ cond-false (ltb 1000000 t.period) _ _ (le-ltb 1000000 t.period g.short)
        ∙ cond-false (ltb t.period t.budget) (Some BudgetAbovePeriod) None (le-ltb t.period t.budget g.room)

all_accepted : (k : ℕ) (ts : List Task) → k + length ts ≤ 64 → ((i : ℕ) (t : Task) → slice_get ts i ≡ Some t → GoodRow t) → RowsAfter k ts
all_accepted k [] l g = tt
all_accepted k (t ∷ ts) l g = (accepted t k (g 0 t refl) (omega arith), all_accepted (k + 1) ts (omega arith) (λ i u e. g (suc i) u e))

pub tasks_taken : (t : Table) → Taken (tasks t)
tasks_taken t = rows_taken [] (tasks t) Taken.none (all_accepted 0 (tasks t) (omega (arith, tasks_count t, t.few)) (rows_kept t))
