use Rattle.std.proofs.Common.{◌≡◌, ℕ, ◌+◌, length, true, false, Some, Option, rules, sym, ◌∙◌, subst, arith}
use Rattle.std.proofs.lemmas.List.{get_or_read}
use Rattle.order.specs.Picks.{Picked}
use Rattle.order.proofs.Picking.{begin, change, keep, skip, picked_once}
use Rattle.order.proofs.pick.least.Goals as goal
use Rattle.order.proofs.pick.least.Goals.{then-matches+in-None, then-matches+in-Some-best+then-before, then-matches+in-Some-best+else-before, else-matches}

pub loop-place-preserved : goal.loop-place-preserved
loop-place-preserved g c =
    let less = g.T.Ranked.less in
    let mark = g.T.Marked.marking in
    let o = g.met.T.Ranked.ranks in
    let m = c.args.mark in
    let xs = c.args.records.now in
    let n = c.loop-place.place in
    let x = c.index-records-place.result in
    let here = get_or_read xs n x (omega arith) c.index-records-place.is in
    let has : c.match-matches.matches ≡ true → mark x ≡ Some m = search rules in
    let other : c.match-matches.matches ≡ false → mark x ≡ Some m → ⊥ = search rules in
    let Was : Option ℕ → Type 0 = Picked less mark m xs n in
    let Is : Option ℕ → Type 0 = Picked less mark m xs (n + 1) in
    elim c.if-matches.branch [
      | then-matches+in-None w ↦
          subst Is (sym w.best-is) (begin less mark o m xs n x here (has w.if-matches.true) (subst Was w.in-None.is c.loop-place.invariant))
      | then-matches+in-Some-best+then-before w ↦
          let b = w.in-Some-best.b in
          let y = w.index-records-b.result in
          let h = subst Was w.in-Some-best.is c.loop-place.invariant in
          let there = get_or_read xs b y (omega (arith, h.inside)) w.index-records-b.is in
          let nearer : less x y ≡ true = sym w.before-in-Some-best.ensures ∙ w.if-before.true in
          subst Is (sym w.best-is) (change less mark o m xs n x here b y there h (has w.if-matches.true) nearer)
      | then-matches+in-Some-best+else-before w ↦
          let b = w.in-Some-best.b in
          let y = w.index-records-b.result in
          let h = subst Was w.in-Some-best.is c.loop-place.invariant in
          let there = get_or_read xs b y (omega (arith, h.inside)) w.index-records-b.is in
          let later : less x y ≡ false = sym w.before-in-Some-best.ensures ∙ w.if-before.false in
          subst Is (sym w.best-is) (keep less mark o m xs n x here b y there h later)
      | else-matches w ↦ subst Is (sym w.best-is) (skip less mark o m xs n x here c.loop-place.best (other w.if-matches.false) c.loop-place.invariant)
    ]

pub returns-clause-only : goal.returns-clause-only
returns-clause-only g c =
    let less = g.T.Ranked.less in
    let mark = g.T.Marked.marking in
    let m = c.args.mark in
    let xs = c.args.records.now in
    let end : c.loop-place.place ≡ length xs = omega arith in
    λ o q. picked_once less mark m xs o c.loop-place.best q (subst (λ n. Picked less mark m xs n c.loop-place.best) end c.loop-place.invariant)
