-- What a table's memory stands for.
use Rattle.std.specs.Prelude.{ℕ, List, map, take}
use Rattle.plan.specs.declared.name.Name.{Name}
use Rattle.plan.specs.declared.row.Row.{Row}
use Rattle.plan.specs.declared.table.Table.{Table}
use Rattle.plan.specs.Rows.{Task}

abbrev pub letters : Name → List ℕ
letters n = n.text.bytes

abbrev pub task_of : Row → Task
task_of r = record { budget = r.budget; period = r.period; name = letters r.name }

-- the rows of a table, in order; places past its count hold none
abbrev pub tasks : Table → List Task
tasks t = map task_of (take t.count t.rows)
