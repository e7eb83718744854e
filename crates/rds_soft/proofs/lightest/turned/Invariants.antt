use Rattle.std.proofs.Common.{◌≡◌, ◌<◌, ◌%◌, ◌^◌, bit_xor, length, slice_index, ℕ}
use Rattle.rds_soft.proofs.lightest.turned.Given as goal

abbrev pub invariant-loop-k : goal.invariant-loop-k
invariant-loop-k l = record {
  long : length l.lanes ≡ 16;
  each : (j : ℕ) → j < 16 → slice_index l.lanes j ≡ slice_index l.fn.block (bit_xor j (l.effect % 2 ^ l.k));
}
