use Rattle.rds_soft.proofs.Names.{◌≡◌, ◌≤◌, length, get_or, ℕ, [], the_effect, confidence, AreLeast}
use Rattle.rds_soft.proofs.lightest.fill_rows.Given as goal

abbrev pub invariant-loop-n : goal.invariant-loop-n
invariant-loop-n l = record {
  long : length l.rows ≡ 27;
  done : (k : ℕ) → k ≤ l.n → AreLeast the_effect (confidence l.confidences) k (get_or l.rows k []);
}
