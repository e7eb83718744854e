-- A list that is written in one pass. `OnePass` cites it, and no public call.
use Rattle.std.specs.Prelude.{◌+◌, ◌<◌, ◌≡◌, ◌≤◌, ◌*◌, ◌^◌, ℕ, List, length}
use Rattle.rds_sync.specs.{Counting.IsAtMost, Totals.totals_of, declared.item.Item.Item, declared.totals.Totals.Totals}

-- the totals are those of these items, which bound them
pub record HasCounted (items : List Item) (totals : Totals) : Type 0 where
  pub are : totals ≡ totals_of items
  pub small : IsAtMost (2 ^ 10 * length items) totals

-- there is room for some items, and a sheet for their longest rows, or for the last ones
pub record HasRoom (items : ℕ) (sheet : ℕ × ℕ) : Type 0 where
  pub some : 0 < items
  pub fits : items ≤ sheet.0
  pub last : 19 ≤ sheet.0
  pub longest : sheet.1 ≡ 168
