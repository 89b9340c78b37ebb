-- `rank` meets its contract: the first that are less are all that are.
use Rattle.std.proofs.Common.{rules, ltb, ltb-true, ltb-false, arith}
use Rattle.std.proofs.lemmas.List.Sorted.{IsPartitionPoint-from_clause, IsPartitionedBy-ltb, IsNonDecreasingBy-from_default}
use Rattle.audit.proofs.Ordering.{rank_is}
use Rattle.audit.proofs.ages.rank.Goals as goal

pub returns : goal.returns
returns c =
    let a = c.args.age in
    λ d s.
    let parted = IsPartitionedBy-ltb (λ x. x) c.args.sorted.now a (IsNonDecreasingBy-from_default (λ x. x) c.args.sorted.now 0 s.rising) in
    let point = IsPartitionPoint-from_clause (λ x. ltb x a) _ _ c.partition_point.ensures.partitioned parted (λ a r q k. search rules) in
    rank_is s a c.partition_point.result c.partition_point.ensures.bound (λ i h. ltb-true _ _ (point.0 i 0 (omega arith) h)) (λ i h k. ltb-false _ _ (point.1 i 0 h k))
