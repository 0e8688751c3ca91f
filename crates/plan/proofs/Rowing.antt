-- The rows of a table are good rows.
use Rattle.std.proofs.lemmas.List.{length-map, length-take-le, get_or-map}
use Rattle.std.proofs.Common.{length, get_or, sym, ap, arith, ◌∙◌, ◌<◌, ◌≡◌, ℕ, zero, suc, List, [], ◌∷◌, map, take, Some, None, subst, arith}
use Rattle.std.specs.List.{slice_get}
use Rattle.plan.specs.declared.row.Row.{Row}
use Rattle.plan.specs.declared.table.Table.{Table}
use Rattle.plan.specs.Laws.{GoodRow}
use Rattle.plan.specs.Rows.{Task}
use Rattle.plan.specs.Views.{task_of, tasks}

-- a row keeps the rules of rows
row_kept : (r : Row) → GoodRow (task_of r)
row_kept r = record { name = r.name.good; some = r.some; room = r.room; short = r.short }

nth_from_map : {X Y : Type 0} (f : X → Y) (xs : List X) (i : ℕ) (y : Y) → slice_get (map f xs) i ≡ Some y → (x : X) × (f x ≡ y)
nth_from_map f [] i y e = absurd (never e)
  where
    never : None ≡ Some y → ⊥
    never z = let n : ◌≡◌ {A = ℕ} 0 1 = cc in omega arith
nth_from_map f (x ∷ xs) zero y e = (x, cc)
nth_from_map f (x ∷ xs) (suc i) y e = nth_from_map f xs i y e

pub rows_kept : (t : Table) (i : ℕ) (task : Task) → slice_get (tasks t) i ≡ Some task → GoodRow task
rows_kept t i task e = let r = nth_from_map task_of (take t.count t.rows) i task e in subst GoodRow r.1 (row_kept r.0)

pub tasks_count : (t : Table) → length (tasks t) ≡ t.count
tasks_count t = length-map (take t.count t.rows) task_of ∙ length-take-le t.count t.rows (omega (arith, t.wide, t.few))

-- the row at i is task i
pub task_at : (t : Table) (i : ℕ) (r : Row) (rows : List Row) → map task_of rows ≡ tasks t → i < length rows → r ≡ get_or rows i r → (i < length (tasks t)) × (get_or (tasks t) i (task_of r) ≡ task_of r)
task_at t i r rows e l is = (
  omega (arith, l, length-map rows task_of, ap length e),
  ap (λ ts. get_or ts i (task_of r)) (sym e) ∙ get_or-map task_of rows i r (task_of r) l ∙ ap task_of (sym is),
)
