use Rattle.rds_code.proofs.Names.{◌≡◌, ◌≤◌, vec_len, vec_items, vec_capacity, StandIn}
use Rattle.rds_code.proofs.outcomes.all_entries.Given as goal

abbrev pub invariant-loop-remainder : goal.invariant-loop-remainder
invariant-loop-remainder l = record {
  count : vec_len l.entries ≡ l.remainder;
  room : 1024 ≤ vec_capacity l.entries;
  entries : StandIn l.limit (vec_items l.entries);
}
