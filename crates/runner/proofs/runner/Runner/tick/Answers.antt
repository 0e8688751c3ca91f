use Rattle.std.proofs.Common.{refl, ◌∙◌, arith}
use Rattle.runner.specs.Views.{work_of}
use Rattle.runner.proofs.Ticking.{rests}
use Rattle.runner.proofs.Works.{holds_of}
use Rattle.runner.proofs.runner.Runner.tick.Goals as goal

pub invariant_of-self : goal.invariant_of-self
invariant_of-self g c =
    let s = c.args.self.now in
    let w = work_of s in
    let m = g.L.Layout.meaning s.layout in
    let rest = rests w m s.clock s.jobs.slots c.run_bins.new.jobs.slots (holds_of s) (c.run_bins.ensures.jobs w (holds_of s)) in
    record { few = s.few; timely = omega arith; listed = s.listed; placed = λ i l. c.run_bins.ensures.bins i ∙ s.placed i l; rest = rest }

pub returns : goal.returns
returns g c =
    let s = c.args.self.now in
    record {
      ticked = record {
        misfit = λ n. absurd (n (c.if-row-processors.false ∙ c.processors.ensures));
        over = λ e l. absurd (omega arith);
        accepted = λ e l. (refl, c.run_bins.ensures.row (work_of s) (holds_of s), c.run_bins.ensures.jobs (work_of s) (holds_of s));
      };
      same = record { plan = refl; layout = refl; tasks = refl };
    }
