use Rattle.std.proofs.Common.{◌≡◌, ℕ, ◌<◌, ◌≤◌, leb, length, get_or, take, sym, rules, leb-true, ◌∙◌, arith}
use Rattle.std.proofs.lemmas.Bool.{leb-false}
use Rattle.std.proofs.lemmas.List.{get_or-take, length-take-le}
use Rattle.std.proofs.lemmas.List.Sorted.{IsPartitionPoint-from_clause, IsPartitionedBy-leb, IsNonDecreasingBy-from_default}
use Rattle.std.specs.List.Sorted.{IsNonDecreasingBy}
use Rattle.layout_laws.specs.Semi.{room, free}
use Rattle.layout_laws.proofs.Sums.{before_mono}
use Rattle.layout.specs.Shared.{reserved}
use Rattle.layout.proofs.Serving.{highest_before}
use Rattle.layout.proofs.semi.Semi.holder.Goals as goal

-- what the processors leave is summed up, so the sums never fall, and those at most `position` come first
pub returns : goal.returns
returns c =
    let x = c.args.self.now in
    let s = x.shares in
    let m = s.processors in
    let all : length (take m x.frees) ≡ m = length-take-le m x.frees (omega (arith, s.most.1, x.wide)) in
    let read : (k : ℕ) → k < m → get_or (take m x.frees) k 0 ≡ get_or x.frees k 0 = λ k l. get_or-take m x.frees k 0 l in
    let rising : IsNonDecreasingBy (λ y. y) (take m x.frees) = IsNonDecreasingBy-from_default (λ y. y) (take m x.frees) 0 (λ i j l h.
    omega (arith, read i (omega arith), read j (omega arith), x.freed i (omega (arith, s.most.1)), x.freed j (omega (arith, s.most.1)), before_mono (room s.slot (reserved s)) i j l)) in
    let point = IsPartitionPoint-from_clause (λ y. leb y c.args.position) (take m x.frees) c.partition_point.result c.partition_point.ensures.partitioned (IsPartitionedBy-leb (λ y. y) (take m x.frees) c.args.position rising) (λ a r q k. search rules) in
    let bound : c.partition_point.result ≤ m = search rules in
    c.saturating_sub.ensures ∙ sym (highest_before (free s.slot (reserved s)) c.args.position m c.partition_point.result bound
    (λ k l. omega (arith, read k (omega arith), x.freed k (omega (arith, s.most.1)), leb-true (get_or (take m x.frees) k 0) c.args.position (point.0 k 0 (omega arith) l)))
    (λ k h l. omega (arith, read k l, x.freed k (omega (arith, s.most.1)), leb-false (get_or (take m x.frees) k 0) c.args.position (point.1 k 0 h (omega arith)))))
