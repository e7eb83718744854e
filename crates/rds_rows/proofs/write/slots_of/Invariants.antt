use Rattle.rds_rows.proofs.Names.{◌≡◌, ◌≤◌, vec_capacity, vec_len}
use Rattle.rds_rows.proofs.write.slots_of.Given as goal

abbrev pub invariant-loop : goal.invariant-loop
invariant-loop g l = record {
  len : vec_len l.slots ≡ l.counter;
  room : l.count ≤ vec_capacity l.slots;
}
