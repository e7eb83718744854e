-- The rows of a listing one by one, and those of a scan. `ListingRows`, `SoftRows` and `WindowRows` are these, which
-- `write_rows` writes; no public call cites it.
use Rattle.std.specs.{Prelude.◌++◌, Prelude.ℕ, Prelude.[], Prelude.List, Prelude.None, Prelude.Option, Prelude.Some, Prelude.map, List.range_with_len}
use Rattle.rds_code.specs.declared.offset.Offset.{Offset}
use Rattle.rds_stream.specs.Recording.{Signal, length_of, valid_at}
use Rattle.rds_sync.specs.declared.{item.Item.Item, totals.Totals.Totals}
use Rattle.rds_soft.specs.declared.{soft_item.SoftItem.SoftItem, soft_totals.SoftTotals.SoftTotals}
use Rattle.rds_tool.specs.{Listing.item_row, Listing.named_totals, Listing.total_row, Listing.window_row, Soft.named_flips, Soft.soft_row}

-- those of the items in order, and then those of the totals
abbrev pub rows_of_report : List Item → Totals → List (List ℕ)
rows_of_report items totals = map item_row items ++ map total_row (named_totals totals)

-- the twelve totals, and then the corrected blocks by flips
abbrev pub named_soft_totals : SoftTotals → List (List ℕ × ℕ)
named_soft_totals totals = named_totals totals.totals ++ named_flips totals

-- the same of items that were read again
abbrev pub rows_of_soft_report : List SoftItem → SoftTotals → List (List ℕ)
rows_of_soft_report items totals = map soft_row items ++ map total_row (named_soft_totals totals)

-- the row of a window, if there is one
abbrev pub row_where : Option (ℕ × Offset) → List ℕ
row_where None = []
row_where (Some window) = window_row window

-- one for each place of the recording
abbrev pub rows_of_places : Signal → List (List ℕ)
rows_of_places b = map (λ i. row_where (valid_at b i)) (range_with_len 0 (length_of b))
