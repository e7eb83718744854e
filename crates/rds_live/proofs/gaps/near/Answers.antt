use Rattle.rds_live.proofs.Names.{◌≡◌, ◌-◌, ◌^◌, ℕ, drop, length, length-drop, take, leb, ltb, arith, rules, take_all, IsPartitionPoint-from_clause, IsPartitionedBy-leb, IsPartitionedBy-ltb}
use Rattle.rds_live.proofs.NearGaps.{begins-rise, ends-rise, near-gaps}
use Rattle.rds_live.proofs.gaps.near.Goals as goal

pub returns : goal.returns
returns c =
    let gaps = c.args.gaps.now in
    let before = c.args.before in
    let len = c.args.len in
    let first = c.partition_point-first.result in
    let rest = take (length gaps - first) (drop first gaps) in
    let is : rest ≡ drop first gaps = take_all (length gaps - first) (drop first gaps) (omega (arith, length-drop first gaps)) in
    let at_first = IsPartitionPoint-from_clause (λ (gap : ℕ × ℕ). leb gap.1 before) gaps first c.partition_point-first.ensures.partitioned
    (IsPartitionedBy-leb (λ (gap : ℕ × ℕ). gap.1) gaps before (ends-rise (2 ^ 36) gaps c.requires.are)) (λ a r q k. search rules) in
    let at_count = IsPartitionPoint-from_clause (λ (gap : ℕ × ℕ). ltb (gap.0 - before) len) rest c.partition_point-count.result c.partition_point-count.ensures.partitioned
    (IsPartitionedBy-ltb (λ (gap : ℕ × ℕ). gap.0 - before) rest len (begins-rise (2 ^ 36) before first gaps rest c.requires.are is)) (λ a r q k. search rules) in
    record { gaps = near-gaps before len gaps rest first c.partition_point-count.result is at_first at_count }
