use Rattle.rds_live.proofs.Names.{◌≡◌, ◌≤◌, ◌-◌, ◌++◌, length, map, vec_capacity, range_with_len, spare}
use Rattle.rds_live.proofs.gaps.fill_up.Given as goal

abbrev pub invariant-loop-number : goal.invariant-loop-number
invariant-loop-number l = record {
  so_far : l.gaps.items ≡ l.initial.gaps.items ++ map spare (range_with_len (length l.initial.gaps.items) (l.number - length l.initial.gaps.items));
  from_on : length l.initial.gaps.items ≤ l.number;
  within : l.number - length l.initial.gaps.items ≤ l.slots - length l.initial.gaps.items;
  count : length l.gaps.items ≡ l.number;
  room : vec_capacity l.gaps ≡ vec_capacity l.initial.gaps;
}
