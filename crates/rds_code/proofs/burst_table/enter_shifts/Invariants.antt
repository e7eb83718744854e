use Rattle.rds_code.proofs.Names.{ℕ, ◌*◌, ◌^◌, ◌<◌, IsBurst, IsSound, HasBurst}
use Rattle.rds_code.proofs.burst_table.enter_shifts.Given as goal

abbrev pub invariant-loop-shift : goal.invariant-loop-shift
invariant-loop-shift l = record {
  sound : IsSound l.patterns;
  entered : (shift : ℕ) → shift < l.shift → l.pattern * 2 ^ shift < 2 ^ 26 → HasBurst l.patterns (l.pattern * 2 ^ shift);
  kept : (e : ℕ) → IsBurst 5 e → HasBurst l.fn.patterns e → HasBurst l.patterns e;
}
