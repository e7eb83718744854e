use Rattle.rds_soft.proofs.Names.{◌≡◌, ◌++◌, ◌+◌, ◌-◌, ◌*◌, ◌^◌, ◌≤◌, ℕ, List, take, AreAtMost, plus, soft_totals_of, SoftItem}
use Rattle.rds_soft.specs.Inside.Totals.{clean}
use Rattle.rds_soft.proofs.soft_stream.counted.Given as goal

abbrev pub invariant-loop-i : goal.invariant-loop-i
invariant-loop-i l = record {
  few : l.valid ≤ l.i;
  value : (before : List SoftItem) → l.fn.totals ≡ soft_totals_of before
      → plus l.others (clean l.valid) ≡ soft_totals_of (before ++ take l.i l.items);
  small : (most : ℕ) → AreAtMost most l.fn.totals → AreAtMost (most + 2 ^ 10 * (l.i - l.valid)) l.others;
}
