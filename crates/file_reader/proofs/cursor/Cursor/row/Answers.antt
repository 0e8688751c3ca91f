use Rattle.std.proofs.Common.{◌≡◌, ℕ, ◌+◌, ◌-◌, ◌≤◌, List, [], ◌∷◌, ◌++◌, length, get_or, take, drop, Option, Some, None, sym, ap, ◌∙◌, subst, arith, rules}
use Rattle.std.proofs.lemmas.List.{length-drop, length-take-le}
use Rattle.plan.specs.Rows.{Task}
use Rattle.plan.specs.Views.{tasks}
use Rattle.file_parts.specs.declared.fault.Fault.TheVariants.{Name, Cut}
use Rattle.file_reader.specs.declared.rows.RowFault.{RowFault}
use Rattle.file_reader.specs.declared.rows.RowFault.TheVariants as form
use Rattle.file_reader.specs.declared.rows.RowRead.{RowRead}
use Rattle.file_reader.specs.Bytes.{long_at, Stands}
use Rattle.file_reader.specs.Grammar.{row_bytes}
use Rattle.file_reader.specs.Faults.{task_at, refused, row_told, row_fault}
use Rattle.file_reader.specs.RowReads.{row_used}
use Rattle.file_reader.proofs.RowCases.{part, seen, cut, misnamed, whole, part_length, part_stands}
use Rattle.file_reader.proofs.Spelling.{row_bytes_length}
use Rattle.file_reader.proofs.cursor.Cursor.row.Goals as goal

abbrev fault_of : RowRead → Option RowFault
fault_of r = r.fault

pub returns-in-Some-Name-clause-read : goal.returns-in-Some-Name-clause-read
returns-in-Some-Name-clause-read c =
    let f = c.args.file.now in
    let p = c.args.self.now.pos in
    let e = c.args.self.now.limit in
    let k : ℕ = length (tasks c.args.table.now) in
    let found : c.row.result.0.fault ≡ Some form.Name = search rules in
    let is : row_fault f p e k ≡ Some (Name (p + 8)) = elim (seen f p e (search rules) (search rules)) [
      | cut r s ↦ absurd (let z : Some form.Name ≡ Some form.Cut = sym found ∙ ap fault_of (c.row.ensures.is ∙ r) in cc z)
      | misnamed r s ↦ s k
      | whole m r u t s ↦ absurd (let z : Some form.Name ≡ None = sym found ∙ ap fault_of (c.row.ensures.is ∙ r) in cc z)
    ] in
    (is, search rules)

pub returns-in-Some-Cut-clause-read : goal.returns-in-Some-Cut-clause-read
returns-in-Some-Cut-clause-read c =
    let f = c.args.file.now in
    let p = c.args.self.now.pos in
    let e = c.args.self.now.limit in
    let k : ℕ = length (tasks c.args.table.now) in
    let found : c.row.result.0.fault ≡ Some form.Cut = search rules in
    let is : row_fault f p e k ≡ Some (Cut e) = elim (seen f p e (search rules) (search rules)) [
      | cut r s ↦ s k
      | misnamed r s ↦ absurd (let z : Some form.Cut ≡ Some form.Name = sym found ∙ ap fault_of (c.row.ensures.is ∙ r) in cc z)
      | whole m r u t s ↦ absurd (let z : Some form.Cut ≡ None = sym found ∙ ap fault_of (c.row.ensures.is ∙ r) in cc z)
    ] in
    (is, search rules)

pub overflow_sub-self : goal.overflow_sub-self
overflow_sub-self c =
    let f = c.args.file.now in
    let p = c.args.self.now.pos in
    let e = c.args.self.now.limit in
    let l : p ≤ e = search rules in
    let w : e ≤ length f = search rules in
    omega (arith, ap length c.row.ensures.rest, length-drop (row_used (part f p e)) (part f p e), part_length f p e l w)

-- the task whose row was read, as the table got it
abbrev got : List ℕ → ℕ → RowRead → Task
got f p r = record { budget = r.budget; period = r.period; name = take (p + r.name_at + r.name_len - (p + r.name_at)) (drop (p + r.name_at) f) }

got_is : (f : List ℕ) (p : ℕ) (r : RowRead) → r ≡ record { budget = long_at f p; period = long_at f (p + 4); name_at = 9; name_len = get_or f (p + 8) 0; fault = None } → got f p r ≡ task_at f p
got_is f p r e = ap (got f p) e ∙ ap (λ n. record { budget = long_at f p; period = long_at f (p + 4); name = take n (drop (p + 9) f) }) (omega arith)

row_length : (f : List ℕ) (p : ℕ) → p + 9 + get_or f (p + 8) 0 ≤ length f → length (row_bytes (task_at f p)) ≡ 9 + get_or f (p + 8) 0
row_length f p h = row_bytes_length (task_at f p) ∙ ap (λ n. 9 + n) (length-take-le (get_or f (p + 8) 0) (drop (p + 9) f) (omega (arith, length-drop (p + 9) f, h)))

pub returns-in-Ok : goal.returns-in-Ok
returns-in-Ok c =
    let f = c.args.file.now in
    let p = c.args.self.now.pos in
    let e = c.args.self.now.limit in
    let l : p ≤ e = search rules in
    let w : e ≤ length f = search rules in
    let k : ℕ = length (tasks c.args.table.now) in
    let b : List ℕ = part f p e in
    elim (seen f p e l w) [
      | cut r s ↦ absurd (let z : c.row.result.0.fault ≡ Some form.Cut = ap fault_of (c.row.ensures.is ∙ r) in cc)
      | misnamed r s ↦ absurd (let z : c.row.result.0.fault ≡ Some form.Name = ap fault_of (c.row.ensures.is ∙ r) in cc)
      | whole m r u t s ↦
          let same = got_is f p c.row.result.0 (c.row.ensures.is ∙ r) in
          let ok = c.in-Ok.ensures in
          let long : length (row_bytes (task_at f p)) ≡ 9 + get_or f (p + 8) 0 = row_length f p (omega (arith, m, w)) in
          let rest : length c.row.result.1.now ≡ e - p - (9 + get_or f (p + 8) 0) = ap length c.row.ensures.rest ∙ length-drop (row_used b) b ∙ ap (λ x. x - row_used b) (part_length f p e l w) ∙ ap (λ x. e - p - x) u in
          record {
            limit = search rules;
            read = record {
              task = task_at f p;
              stands = part_stands f p e l w (row_bytes (task_at f p)) (omega (arith, long, m)) (subst (λ x. Stands b 0 (row_bytes x)) t (c.row.ensures.spelled (ap fault_of c.row.ensures.is ∙ ap fault_of r)));
              good = subst (λ x. refused x k ≡ None) same ok.0;
              after = omega (arith, rest, m, long);
              added = ok.1 ∙ ap (λ x. tasks c.args.table.now ++ x ∷ []) same;
            };
          }
    ]

pub returns-in-Err : goal.returns-in-Err
returns-in-Err c =
    let f = c.args.file.now in
    let p = c.args.self.now.pos in
    let e = c.args.self.now.limit in
    let l : p ≤ e = search rules in
    let w : e ≤ length f = search rules in
    let k : ℕ = length (tasks c.args.table.now) in
    elim (seen f p e l w) [
      | cut r s ↦ absurd (let z : c.row.result.0.fault ≡ Some form.Cut = ap fault_of (c.row.ensures.is ∙ r) in cc)
      | misnamed r s ↦ absurd (let z : c.row.result.0.fault ≡ Some form.Name = ap fault_of (c.row.ensures.is ∙ r) in cc)
      | whole m r u t s ↦
          let same = got_is f p c.row.result.0 (c.row.ensures.is ∙ r) in
          let bad = c.in-Err.ensures in
          let is = s k ∙ ap (row_told (p + 8) k) (subst (λ x. refused x k ≡ Some c.in-Err.refusal) same bad.0) ∙ subst (λ n. row_told (p + 8) n (Some c.in-Err.refusal) ≡ Some c.told.result) c.count-number.ensures c.told.ensures in
          record { limit = search rules; read = (is, search rules) }
    ]
