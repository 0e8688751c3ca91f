use Rattle.std.proofs.Common.{◌≡◌, ◌+◌, ◌≤◌, length, get_or, set, sym, ◌∙◌, subst, arith, rules}
use Rattle.plan.specs.Method.{full, put}
use Rattle.plan.proofs.FirstFit.{put_light}
use Rattle.plan.proofs.Placing.{added, put_open}
use Rattle.plan.proofs.packing.Packing.put.Goals as goal

pub returns-in-Some-clause-loaded : goal.returns-in-Some-clause-loaded
returns-in-Some-clause-loaded c = added c.args.charge c.args.self.now.loads.items c.place-bin.result c.in-Some.load.now c.place-bin.ensures.lowest (search rules) (search rules)

pub returns-in-None-clause-loaded : goal.returns-in-None-clause-loaded
returns-in-None-clause-loaded c =
    let ws = c.args.self.now.loads.items in
    let l : length ws ≤ c.place-bin.result = search rules in
    c.push-in-None.ensures.items ∙ sym (put_open c.args.charge ws (omega (arith, c.place-bin.ensures.lowest, c.place-bin.ensures.within)))

-- the loads after the write are those of First-Fit, which stay light
pub invariant_of-self-clause-light : goal.invariant_of-self-clause-light
invariant_of-self-clause-light c =
    let ws = c.args.self.now.loads.items in
    let loaded : set ws c.place-bin.result (c.in-Some.load.now + c.args.charge) ≡ put c.args.charge ws = added c.args.charge ws c.place-bin.result c.in-Some.load.now c.place-bin.ensures.lowest (search rules) (search rules) in
    λ p. subst (λ xs. get_or xs p 0 ≤ full) (sym loaded) (put_light c.args.charge c.requires.charge ws c.args.self.now.light p)
