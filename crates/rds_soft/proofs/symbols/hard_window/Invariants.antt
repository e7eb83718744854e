use Rattle.rds_soft.proofs.Names.{◌≡◌, ◌^◌, ◌<◌, take, number_from_digits, hard_bits}
use Rattle.rds_soft.proofs.symbols.hard_window.Given as goal

abbrev pub invariant-loop-i : goal.invariant-loop-i
invariant-loop-i l = record {
  value : l.w ≡ number_from_digits 2 (take l.i (hard_bits l.symbols));
  small : l.w < 2 ^ l.i;
}
