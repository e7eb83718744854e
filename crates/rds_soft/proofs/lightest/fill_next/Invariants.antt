use Rattle.std.proofs.Common.{◌≡◌, ◌<◌, ◌+◌, ◌*◌, length, slice_index, bit_xor, min, ℕ}
use Rattle.rds_soft.proofs.lightest.fill_next.Given as goal

abbrev pub invariant-loop-block : goal.invariant-loop-block
invariant-loop-block l = record {
  long : length l.next ≡ 1024;
  first : (s : ℕ) → s < 16 * l.block → slice_index l.next s ≡ min (slice_index l.row s) (slice_index l.row (bit_xor s l.effect) + l.confidence);
}
