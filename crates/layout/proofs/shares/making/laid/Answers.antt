use Rattle.std.proofs.Common.{ap, ◌∙◌, arith}
use Rattle.plan.specs.Plans.{planned}
use Rattle.layout.proofs.Laying.{laid_none, laid_as, laid_own, laid_other, read_at}
use Rattle.layout.proofs.shares.making.laid.Goals.{then-at-own, else-at-own}
use Rattle.layout.proofs.shares.making.laid.Goals as goal

pub loop-at-init : goal.loop-at-init
loop-at-init c = let p = planned c.args.plan.now in laid_none p.slot c.args.own p.loads p.reserves c.new-shares.result.items c.new-shares.ensures

pub overflow_sub-left : goal.overflow_sub-left
overflow_sub-left c =
    let r = read_at c.args.plan.now c.packed-bin-items.result.now c.loop-at.at (record { load = 0; reserve = 0 }) c.packed-bin-items.ensures.loads c.packed-bin-items.ensures.reserves (omega arith) in
    omega (arith, r.fits)

pub overflow_add-left : goal.overflow_add-left
overflow_add-left c =
    let r = read_at c.args.plan.now c.packed-bin-items.result.now c.loop-at.at (record { load = 0; reserve = 0 }) c.packed-bin-items.ensures.loads c.packed-bin-items.ensures.reserves (omega arith) in
    record { fits = omega (arith, c.loop-at.invariant.bounded.0, r.short, r.few) }

pub overflow_add-taken : goal.overflow_add-taken
overflow_add-taken c =
    let r = read_at c.args.plan.now c.packed-bin-items.result.now c.loop-at.at (record { load = 0; reserve = 0 }) c.packed-bin-items.ensures.loads c.packed-bin-items.ensures.reserves (omega arith) in
    record { fits = omega (arith, c.loop-at.invariant.bounded.1, r.fits, r.short, r.few) }

pub loop-at-preserved : goal.loop-at-preserved
loop-at-preserved c =
    let r = read_at c.args.plan.now c.packed-bin-items.result.now c.loop-at.at (record { load = 0; reserve = 0 }) c.packed-bin-items.ensures.loads c.packed-bin-items.ensures.reserves (omega arith) in
    elim c.if-at-own.branch [
      | then-at-own w ↦
          laid_as (ap (λ v. v.items) w.shares-is ∙ w.push.ensures.items) (omega (arith, w.left-is, w.slot.ensures)) w.taken-is
          (laid_own c.loop-at.invariant r _ w.if-at-own.true (omega (arith, w.slot.ensures)))
      | else-at-own w ↦
          laid_as (ap (λ v. v.items) w.shares-is ∙ w.push-else-at-own.ensures.items) w.left-is (omega (arith, w.taken-is))
          (laid_other c.loop-at.invariant r _ w.if-at-own.false (omega arith))
    ]
