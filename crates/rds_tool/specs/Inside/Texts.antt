-- The text that is written, whether it is made or still to be spelled. `Task::text` makes it; no
-- public call cites it.
use Rattle.std.specs.{Prelude.◌++◌, Prelude.ℕ, Prelude.List, List.flat_map}
use Rattle.rds_tool.specs.{Listing.report_text, Listing.scan_text, Outcome.list_text, Soft.soft_row, Soft.soft_totals_text, Inside.GroupLines.text_of_groups, declared.task.Text.Text, declared.task.Text.TheVariants.Groups, declared.task.Text.TheVariants.Listing, declared.task.Text.TheVariants.OnePass, declared.task.Text.TheVariants.Soft, declared.task.Text.TheVariants.Whole, declared.task.Text.TheVariants.Windows}

abbrev pub bytes_of : Text → List ℕ
bytes_of (Whole text) = text.items
bytes_of (Listing listing) = report_text listing.report.items.list listing.report.totals
bytes_of (OnePass recording plan) = list_text plan.rules recording
bytes_of (Windows recording workers) = scan_text recording
bytes_of (Groups groups hex) = text_of_groups hex groups.items
bytes_of (Soft items totals) = flat_map soft_row items ++ soft_totals_text totals
