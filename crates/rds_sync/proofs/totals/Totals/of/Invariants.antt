use Rattle.rds_sync.proofs.Names.{◌≡◌, ◌*◌, ◌^◌, List, ◌++◌, length, Item, Totals, IsAtMost, totals_of}
use Rattle.rds_sync.proofs.totals.Totals.of.Given as goal

-- the first items were counted
pub record HasCounted (items rest : List Item) (totals : Totals) : Type 0 where
  pub first : List Item
  pub parted : items ≡ first ++ rest
  pub so_far : totals ≡ totals_of first
  pub small : IsAtMost (2 ^ 10 * length first) totals

abbrev pub invariant-loop-rest : goal.invariant-loop-rest
invariant-loop-rest l = HasCounted l.items l.rest l.totals

abbrev pub decreases-loop-rest : goal.decreases-loop-rest
decreases-loop-rest l = length l.rest
