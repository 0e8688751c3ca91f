use Rattle.std.proofs.Common.{◌/◌, ◌<◌, get_or, sym, ap, ◌∙◌, arith}
use Rattle.std.proofs.iter.Serving.{serving}
use Rattle.layout_laws.specs.Offset.{offset}
use Rattle.layout_laws.proofs.FlatLaws.{processor_below}
use Rattle.layout.specs.Lawful.{count_reserved}
use Rattle.layout.specs.Shared.{reserved, starts}
use Rattle.layout.proofs.Serving.{answered_at}
use Rattle.layout.proofs.flat.serving.FlatLayout.serve.Goals as goal

pub map-requires : goal.map-requires
map-requires c = λ k is.
    let x = c.args.self.now in
    let s = x.shares in
    let p = c.args.bin in
    let a = get_or (starts s) p 0 in
    let here = answered_at s.slot a c.args.tick p k (reserved s) (sym c.position.ensures ∙ is) in
    let l = processor_below s.slot s.processors (reserved s) p a (offset s.slot a c.args.tick) s.fit (x.started p (omega (arith, here.1, count_reserved s))) here.0.early in
    let fits : k / s.slot < 256 = omega (arith, s.most.1, l, ap (λ y. y / s.slot) here.0.by) in
    grind (serving, arith)
