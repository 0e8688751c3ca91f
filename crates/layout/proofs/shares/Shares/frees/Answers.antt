use Rattle.std.proofs.Common.{◌≡◌, ◌+◌, ◌-◌, suc, sym, ap, rules, ◌∙◌, arith}
use Rattle.std.proofs.lemmas.List.{length-set}
use Rattle.layout_laws.specs.Semi.{room, free}
use Rattle.layout_laws.proofs.Sums.{before_none, before_more}
use Rattle.layout.specs.Shared.{reserved}
use Rattle.layout.proofs.Laying.{set_more}
use Rattle.layout.proofs.shares.Shares.frees.Goals as goal

pub loop-q-init : goal.loop-q-init
loop-q-init c = let s = c.args.self.now in (search rules, λ p l. absurd (omega arith), sym (before_none (room s.slot (reserved s))), omega arith)

pub loop-q-preserved : goal.loop-q-preserved
loop-q-preserved c =
    let s = c.args.self.now in
    let i = c.loop-q.q in
    let more : free s.slot (reserved s) (suc i) ≡ c.loop-q.next + (s.slot - c.reserve.result) = omega (arith, before_more (room s.slot (reserved s)) i, c.loop-q.invariant.2, c.reserve.ensures) in
    let one : i + 1 ≡ suc i = omega arith in (
      length-set c.loop-q.free-items i _ ∙ c.loop-q.invariant.0,
      set_more (free s.slot (reserved s)) c.loop-q.free-items i _ (omega (arith, c.loop-q.invariant.0)) (search rules) c.loop-q.invariant.1,
      sym more ∙ ap (free s.slot (reserved s)) (sym one),
      omega (arith, c.loop-q.invariant.3, s.short),
    )
