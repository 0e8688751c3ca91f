-- What a plan's memory stands for.
use Rattle.std.specs.Prelude.{map}
use Rattle.plan.specs.declared.plan.Plan.{Plan}
use Rattle.plan.specs.Bins.{load_of, reserve_in}
use Rattle.plan.specs.Closing.{Planned}
use Rattle.plan.specs.Views.{tasks}

abbrev pub planned : Plan → Planned
planned p = record {
  tasks = tasks p.table;
  processors = p.processors;
  delta = p.delta;
  verdict = p.verdict;
  shortest = p.shortest;
  slot = p.slot;
  bins = p.bin_of.items;
  loads = map load_of p.bins.items;
  reserves = map reserve_in p.bins.items;
}
