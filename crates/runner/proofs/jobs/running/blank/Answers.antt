use Rattle.std.proofs.Common.{length, refl, ⊎_elim, arith}
use Rattle.std.proofs.lemmas.List.{get_or_past}
use Rattle.std.proofs.lemmas.Bool.{cases_lt}
use Rattle.runner.proofs.jobs.running.blank.Goals as goal

pub returns : goal.returns
returns c q =
    let row = c.fill.new.self in
    ⊎_elim (λ l. c.fill.ensures.clones q 255 l refl) (λ l. get_or_past row q 255 (omega (arith, c.fill.ensures.len))) (cases_lt q (length c.args.row.now))
