use Rattle.std.proofs.Common.{◌+◌, ◌≤◌, get_or, set, sym, ap, ◌∙◌, arith}
use Rattle.runner.specs.declared.jobs.Jobs.{Jobs}
use Rattle.runner.specs.Jobs.{none, worked}
use Rattle.runner.proofs.Ticking.{ran_as, ran_unserved, ran_idle, ran_task, ran_row, ran_jobs}
use Rattle.runner.proofs.jobs.running.run_bins.Goals as goal
use Rattle.runner.proofs.jobs.running.run_bins.Goals.{in-Some+in-Some-next_of, in-Some+in_default-next_of, in_default}

pub name-requires : goal.name-requires
name-requires g c =
    let m = g.L.Layout.meaning c.args.layout.now in
    let here = (g.met.L.Layout.exclusive c.args.layout.now).within c.args.clock c.loop-bin.bin c.in-Some.processor (sym c.server.ensures ∙ c.in-Some.is) in
    omega (arith, here, c.requires, c.loop-bin.auto.row, c.blank.auto.row)

pub loop-bin-preserved : goal.loop-bin-preserved
loop-bin-preserved g c =
    let m = g.L.Layout.meaning c.args.layout.now in
    let t = c.args.clock in
    let js₀ = c.args.jobs.now.slots in
    let b = c.loop-bin.bin in
    let row = c.loop-bin.row in
    let js = c.loop-bin.jobs.slots in
    let r = c.loop-bin.invariant in
    let row' = c.match-server.row in
    let js' = c.match-server.jobs.slots in
    elim c.match-server.branch [
      | in-Some+in-Some-next_of w ↦
          let q = w.in-Some.processor in
          let i = w.in-Some-next_of.task in
          ran_as m t js₀ (b + 1) (set row q i) row' (set js i (worked (get_or js i none))) js' (w.row-is ∙ w.name.ensures) (ap (λ (x : Jobs). x.slots) w.jobs-is ∙ w.work.ensures)
          (ran_task m t js₀ b row js r q i (g.met.L.Layout.exclusive c.args.layout.now) (sym c.server.ensures ∙ w.in-Some.is) c.loop-bin.jobs.wide w.in-Some-next_of.ensures)
      | in-Some+in_default-next_of w ↦ ran_as m t js₀ (b + 1) row row' js js' w.row-is (ap (λ (x : Jobs). x.slots) w.jobs-is) (ran_idle m t js₀ b row js r w.in_default-next_of.ensures)
      | in_default w ↦ ran_as m t js₀ (b + 1) row row' js js' w.row-is (ap (λ (x : Jobs). x.slots) w.jobs-is) (ran_unserved m t js₀ b row js r (sym c.server.ensures ∙ w.in_default.is))
    ]

pub returns : goal.returns
returns g c =
    let m = g.L.Layout.meaning c.args.layout.now in
    let formed = g.met.L.Layout.formed c.args.layout.now in
    let r = c.loop-bin.invariant in
    let all : m.bins ≤ c.loop-bin.bin = omega (arith, c.bins-bin-end.ensures) in
    let js₀ = c.args.jobs.now.slots in
    record {
      bins = r.bins;
      row = ran_row m c.args.clock js₀ c.loop-bin.bin c.loop-bin.row c.loop-bin.jobs.slots r formed all;
      jobs = ran_jobs m c.args.clock js₀ c.loop-bin.bin c.loop-bin.row c.loop-bin.jobs.slots r formed all;
    }
