use Rattle.rds_live.proofs.Names.{◌≡◌, ◌++◌, drop, length, vec_capacity, gaps_within}
use Rattle.rds_live.proofs.gaps.fill_gaps.Given as goal

abbrev pub invariant-loop-gap : goal.invariant-loop-gap
invariant-loop-gap l = record {
  so_far : l.found.items ++ gaps_within (drop l.gap-index l.near) l.before l.len ≡ gaps_within l.gaps l.before l.len;
  room : vec_capacity l.found ≡ vec_capacity l.initial.found;
  end : l.gap-index-end ≡ length l.near;
}
