use Rattle.rds_abi.proofs.Shared.{◌≡◌, ◌-◌, ◌^◌, List, arith, drop, leb, length, length-drop, ltb, rules, subst, sym, take, take_all, IsPartitionPoint-from_clause, IsPartitionedBy-leb, IsPartitionedBy-ltb, AreGaps, gaps_of, RdsGap}
use Rattle.rds_abi.proofs.GapLists.{begins-rise, ends-rise, near-same, some-gaps}
use Rattle.rds_abi.proofs.part.near.Goals as goal

pub returns : goal.returns
returns c =
    let gaps = c.args.gaps.now in
    let before = c.args.before in
    let len = c.args.len in
    let first = c.partition_point-first.result in
    let rest : List RdsGap = take (length gaps - first) (drop first gaps) in
    let is : rest ≡ drop first gaps = take_all (length gaps - first) (drop first gaps) (omega (arith, length-drop first gaps)) in
    let few : AreGaps (2 ^ 36) (gaps_of rest) = some-gaps (2 ^ 36) first (length gaps - first) gaps c.requires in
    let at_first = IsPartitionPoint-from_clause (λ (gap : RdsGap). leb gap.end before) gaps first c.partition_point-first.ensures.partitioned
    (IsPartitionedBy-leb (λ (gap : RdsGap). gap.end) gaps before (ends-rise (2 ^ 36) gaps c.requires)) (λ a r q k. search rules) in
    let at_count = IsPartitionPoint-from_clause (λ (gap : RdsGap). ltb (gap.begin - before) len) rest c.partition_point-count.result c.partition_point-count.ensures.partitioned
    (IsPartitionedBy-ltb (λ (gap : RdsGap). gap.begin - before) rest len (begins-rise (2 ^ 36) before rest few)) (λ a r q k. search rules) in
    record {
      same = λ n fits. near-same before len n fits gaps rest first c.partition_point-count.result is at_first at_count;
      some = subst (λ (gs : List RdsGap). AreGaps (2 ^ 36) (gaps_of (take c.partition_point-count.result gs))) (sym is)
          (some-gaps (2 ^ 36) first c.partition_point-count.result gaps c.requires);
    }
