use Rattle.runner.proofs.Ticking.{Ran}
use Rattle.runner.proofs.jobs.running.run_bins.Given as goal

abbrev pub invariant-loop-bin : goal.invariant-loop-bin
invariant-loop-bin g l = Ran (g.L.Layout.meaning l.layout) l.clock l.initial.jobs.slots l.bin l.row l.jobs.slots
