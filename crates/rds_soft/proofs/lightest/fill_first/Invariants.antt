use Rattle.rds_soft.proofs.Names.{◌≡◌, ◌<◌, length, slice_index, ℕ, of_none}
use Rattle.rds_soft.proofs.lightest.fill_first.Given as goal

abbrev pub invariant-loop-sum : goal.invariant-loop-sum
invariant-loop-sum l = record {
  long : length l.row ≡ 1024;
  each : (s : ℕ) → s < l.sum → slice_index l.row s ≡ of_none s;
}
