use Rattle.std.proofs.Common.{◌<◌, length, sym, subst, arith}
use Rattle.order.specs.Lines.{held}
use Rattle.order.specs.Orders.{Sorted, Stands}
use Rattle.order.proofs.Lining.{put_held, put_spare, put_room}
use Rattle.order.proofs.Placement.{placed_stands, placed_sorted}
use Rattle.order.proofs.line.Line.put.Goals as goal

pub invariant_of-self-clause-sorted : goal.invariant_of-self-clause-sorted
invariant_of-self-clause-sorted g c =
    let less = g.T.Ranked.less in
    let x = c.args.x in
    let old = held c.args.self.now in
    let new = put_held less x c.args.self.now.slots.now c.insert_sorted.new.slots c.args.self.now.count (omega arith) c.insert_sorted.ensures in
    subst (Sorted less) (sym new) (placed_sorted less g.met.T.Ranked.ranks x old c.args.self.now.sorted)

pub returns-clause-put : goal.returns-clause-put
returns-clause-put g c =
    let less = g.T.Ranked.less in
    let x = c.args.x in
    let s = c.args.self.now.slots.now in
    let m = c.insert_sorted.new.slots in
    let n = c.args.self.now.count in
    let l : n < length s = omega arith in
    let is = c.insert_sorted.ensures in
    let old = held c.args.self.now in
    let new = put_held less x s m n l is in
    record {
      room = put_room less x s m n l is;
      records = new;
      free = put_spare less x s m n l is;
      stands = subst (Stands less x old) (sym new) (placed_stands less g.met.T.Ranked.ranks x old c.args.self.now.sorted);
    }
