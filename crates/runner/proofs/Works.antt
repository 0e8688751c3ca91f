-- A runner's tasks are those of its plan.
use Rattle.std.proofs.Common.{◌≡◌, ℕ, ◌*◌, ◌<◌, ◌≤◌, length, get_or, Some, None, Option, sym, ap, ◌∙◌, subst, arith}
use Rattle.std.specs.Option.{option_map}
use Rattle.std.specs.List.{slice_get}
use Rattle.std.proofs.lemmas.Option.{slice_get-get_or}
use Rattle.plan.specs.declared.row.Row.{Row}
use Rattle.plan.specs.Closing.{Planned}
use Rattle.plan.specs.Rows.{Task}
use Rattle.plan.specs.Views.{task_of}
use Rattle.std.proofs.lemmas.List.{length-map, get_or-map}
use Rattle.plan.specs.declared.plan.Plan.{Plan}
use Rattle.plan.specs.Closing.{charges_of}
use Rattle.plan.specs.Laws.{total}
use Rattle.plan.specs.Method.{full, charge}
use Rattle.plan.specs.Plans.{planned}
use Rattle.plan.proofs.Plans.{plan_lawful}
use Rattle.layout.specs.Makes.{Fits}
use Rattle.layout_laws.specs.Meaning.{Meaning, Exclusive, Supplies}
use Rattle.schedule.specs.Work.{own, Sound}
use Rattle.runner.specs.declared.runner.Runner.{Runner}
use Rattle.runner.specs.Jobs.{Holds}
use Rattle.runner.specs.Views.{nobody, work, work_of, RowOf}

pub row_of : (p : Planned) (n i : ℕ) (o : Option Row) → i < n → n ≤ length p.tasks → option_map task_of o ≡ slice_get p.tasks i → RowOf (work p n) i o
row_of p n i (Some row) l h e =
    let z : Some (task_of row) ≡ Some (get_or p.tasks i nobody) = e ∙ slice_get-get_or p.tasks i nobody (omega arith) in
    let t : task_of row ≡ get_or p.tasks i nobody = cc in
    (l, ap (λ (x : Task). x.budget) t, ap (λ (x : Task). x.period) t)
row_of p n i None l h e =
    let z : ◌≡◌ {A = Option Task} None (Some (get_or p.tasks i nobody)) = e ∙ slice_get-get_or p.tasks i nobody (omega arith) in
    let n : ◌≡◌ {A = ℕ} 0 1 = cc in
    absurd (omega arith)

-- the job table of a runner is one of its tasks
pub holds_of : {X : Type 0} (r : Runner X) → Holds (work_of r) r.jobs.slots
holds_of r = record { few = r.few; bins = r.placed; rest = r.rest }

-- the tasks of a plan and a layout that fits it are what the promise is for
pub sound_of : (p : Plan) (m : Meaning) (n : ℕ) → n ≡ length (planned p).tasks → Fits (planned p) m → Exclusive m → Supplies m → Sound (work (planned p) n) m
sound_of p m n e fit ex su =
    let ts = (planned p).tasks in
    let laws = plan_lawful p in
    let good = laws.good fit.good in
    record {
      few = omega (arith, laws.few);
      each = λ i l.
          let t = get_or ts i nobody in
          let at : slice_get ts i ≡ Some t = slice_get-get_or ts i nobody (omega arith) in
          let row = laws.rows i t at in
          let c : get_or (charges_of ts) i 0 ≡ charge t = get_or-map charge ts i nobody 0 (omega arith) in
          record {
            some = row.some;
            room = row.room;
            long = omega (arith, fit.shortest, good.shortest.below i t at);
            charged = subst (λ (x : ℕ). t.budget * full ≤ x * t.period) (sym c) (good.charges i t at).enough;
          };
      loads = λ q. sym (fit.loads q) ∙ good.packed.load q ∙ ap (λ (k : ℕ). total k (own (work (planned p) n) q (work (planned p) n).charge)) (length-map ts charge ∙ sym e);
      exclusive = ex;
      supplies = su;
    }
