use Rattle.std.proofs.Common.{◌<◌, ◌≤◌, length, sym, subst, arith}
use Rattle.std.proofs.lemmas.List.{length-take-le}
use Rattle.order.specs.Lines.{held}
use Rattle.order.specs.Orders.{Sorted}
use Rattle.order.proofs.Lining.{taken_was, taken_held, taken_spare}
use Rattle.order.proofs.Placement.{without_sorted}
use Rattle.order.proofs.line.Line.take.Goals as goal

pub invariant_of-self-clause-sorted : goal.invariant_of-self-clause-sorted
invariant_of-self-clause-sorted g c =
    let less = g.T.Ranked.less in
    let s = c.args.self.now.slots.now in
    let n = c.args.self.now.count in
    let i = c.args.place in
    let l : i < n = omega arith in
    let w : n ≤ length s = omega arith in
    let old = held c.args.self.now in
    let h : i < length old = let q = length-take-le n s w in omega arith in
    let new = taken_held c.remove_at-x.result s c.remove_at-x.new.slots n i l w c.remove_at-x.ensures.after in
    subst (Sorted less) (sym new) (without_sorted less g.met.T.Ranked.ranks old i h c.args.self.now.sorted)

pub returns-clause-taken : goal.returns-clause-taken
returns-clause-taken g c =
    let s = c.args.self.now.slots.now in
    let m = c.remove_at-x.new.slots in
    let n = c.args.self.now.count in
    let i = c.args.place in
    let x = c.remove_at-x.result in
    let l : i < n = omega arith in
    let w : n ≤ length s = omega arith in
    let is = c.remove_at-x.ensures.after in
    record {
      was = taken_was x s m n i l w is (c.remove_at-x.ensures.value x);
      records = taken_held x s m n i l w is;
      free = taken_spare x s m n i l w is;
    }
