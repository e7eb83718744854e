use Rattle.rds_soft.proofs.Names.{◌≡◌, ℕ, ◌<◌, length, slice_index, pos, slice_index_or, cast_signed, w8}
use Rattle.rds_soft.proofs.again.signed.Given as goal

abbrev pub invariant-loop-i : goal.invariant-loop-i
invariant-loop-i l = record {
  long : length l.symbols ≡ 27;
  each : (k : ℕ) → k < l.i → slice_index_or l.symbols k (pos 0) ≡ cast_signed w8 (slice_index l.bytes k);
}
