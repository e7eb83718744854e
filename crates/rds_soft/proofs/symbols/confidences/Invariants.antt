use Rattle.rds_soft.proofs.Names.{◌≡◌, ℕ, ◌<◌, length, slice_index, pos, slice_index_or}
use Rattle.rds_soft.specs.Symbols.{confidence}
use Rattle.rds_soft.proofs.symbols.confidences.Given as goal

abbrev pub invariant-loop-i : goal.invariant-loop-i
invariant-loop-i l = record {
  long : length l.confidences ≡ 27;
  each : (k : ℕ) → k < l.i → slice_index l.confidences k ≡ confidence (slice_index_or l.symbols k (pos 0));
}
