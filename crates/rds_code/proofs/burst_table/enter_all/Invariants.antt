use Rattle.rds_code.proofs.Names.{ℕ, ◌+◌, ◌*◌, ◌^◌, ◌<◌, IsSound, HasBurst}
use Rattle.rds_code.proofs.burst_table.enter_all.Given as goal

abbrev pub invariant-loop-half : goal.invariant-loop-half
invariant-loop-half l = record {
  sound : IsSound l.patterns;
  entered : (half shift : ℕ) → half < l.half → shift < 26 → (2 * half + 1) * 2 ^ shift < 2 ^ 26 → HasBurst l.patterns ((2 * half + 1) * 2 ^ shift);
}
