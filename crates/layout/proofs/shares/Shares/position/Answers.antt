use Rattle.std.proofs.Common.{◌≡◌, ◌<◌, map, length, get_or, sym, ap, rules, ◌∙◌, arith}
use Rattle.std.proofs.lemmas.List.{get_or-map}
use Rattle.layout.specs.Parts.{start_of}
use Rattle.layout.proofs.shares.Shares.position.Goals as goal

pub overflow_add-share : goal.overflow_add-share
overflow_add-share c =
    let s = c.args.self.now in
    let x = c.in_ok-share.share.now in
    let l : c.args.bin < length s.bins.items = search rules in
    let read : x ≡ get_or s.bins.items c.args.bin x = search rules in
    let start : x.start ≡ get_or (map start_of s.bins.items) c.args.bin 0 = ap start_of read ∙ sym (get_or-map start_of s.bins.items c.args.bin x 0 l) in
    omega (arith, s.near c.args.bin, s.short)
