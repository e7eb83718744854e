use Rattle.rds_abi.proofs.Shared.{◌≡◌, drop, length, map, take, packed}
use Rattle.rds_abi.proofs.groups.encode_all.Given as goal

abbrev pub invariant-loop-i : goal.invariant-loop-i
invariant-loop-i l = record {
  written : take l.i l.room ≡ map packed (take l.i l.groups);
  kept : drop l.i l.room ≡ drop l.i l.fn.room;
  same : length l.room ≡ length l.fn.room;
}
