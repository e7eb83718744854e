use Rattle.std.proofs.Common.{◌≡◌, ℕ, ◌<◌, length, slice_index}
use Rattle.rds_soft.proofs.pack.last_bytes.Given as goal

abbrev pub invariant-loop-i : goal.invariant-loop-i
invariant-loop-i l = record {
  long : length l.chunk ≡ 65;
  each : (k : ℕ) → k < l.i → slice_index l.chunk k ≡ slice_index l.symbols k;
}
