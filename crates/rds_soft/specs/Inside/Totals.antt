-- The totals of groups of four valid blocks. `SoftTotals::of_clean` cites them, and no public call.
use Rattle.std.specs.Prelude.{ℕ, ◌*◌, [], ◌∷◌}
use Rattle.rds_soft.specs.declared.soft_totals.SoftTotals.{SoftTotals}

-- the totals of n such groups
abbrev pub clean : ℕ → SoftTotals
clean n = record {
  totals = record {
    valid = 4 * n;
    bursts = 0 ∷ 0 ∷ 0 ∷ 0 ∷ 0 ∷ [];
    lost = 0;
    bits = 0;
    groups = n;
    complete = n;
    acquired = 0;
    losses = 0;
  };
  flipped = 0 ∷ 0 ∷ 0 ∷ 0 ∷ 0 ∷ 0 ∷ [];
}
