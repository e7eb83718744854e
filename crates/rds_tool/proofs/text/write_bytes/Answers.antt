use Rattle.rds_tool.proofs.Names.{◌++◌, ◌∙◌, ap, concat, flat_map, flat_map-append, sym, item_row, list_text, named_flips, named_totals, soft_row, total_row}
use Rattle.rds_tool.{specs.Inside.GroupLines.text_of_groups, specs.Inside.Rows.named_soft_totals, specs.Inside.Texts.bytes_of, proofs.Encoding.as_rows, proofs.ScanRows.scan_spelled, proofs.Spelled.all_spelled, proofs.Texts.same_text}
use Rattle.rds_tool.proofs.text.write_bytes.Goals as goal

pub returns-in_ok-rows-in-Listing : goal.returns-in_ok-rows-in-Listing
returns-in_ok-rows-in-Listing g c =
    let report = c.in-Listing.listing.report in
    same_text _ c.write_rows.ensures
    (ap concat c.in_ok-rows-in-Listing.ensures.rows ∙ all_spelled item_row total_row report.items.list (named_totals report.totals) ∙ sym (ap bytes_of c.in-Listing.is))

pub returns-in-OnePass : goal.returns-in-OnePass
returns-in-OnePass g c = same_text _ c.write_in_one_pass.ensures (ap (λ rules. list_text rules c.in-OnePass.recording) c.rules-in-OnePass.ensures ∙ sym (ap bytes_of c.in-OnePass.is))

pub returns-in-Windows : goal.returns-in-Windows
returns-in-Windows g c = same_text _ c.write_rows-in-Windows.ensures (scan_spelled c.in-Windows.recording ∙ sym (ap bytes_of c.in-Windows.is))

pub returns-in-Groups : goal.returns-in-Groups
returns-in-Groups g c = same_text _ c.write_rows-in-Groups.ensures (sym (as_rows c.in-Groups.hex c.as_slice-in-Groups.result.now)
    ∙ ap (λ groups. text_of_groups c.in-Groups.hex groups) c.as_slice-in-Groups.ensures.value ∙ sym (ap bytes_of c.in-Groups.is))

pub returns-in_ok-rows-in-Soft : goal.returns-in_ok-rows-in-Soft
returns-in_ok-rows-in-Soft g c =
    let totals = c.in-Soft.totals in
    same_text _ c.write_rows-in-Soft.ensures
    (ap concat c.in_ok-rows-in-Soft.ensures.rows ∙ all_spelled soft_row total_row c.in-Soft.items (named_soft_totals totals)
    ∙ ap (λ t. flat_map soft_row c.in-Soft.items ++ t) (flat_map-append total_row (named_totals totals.totals) (named_flips totals)) ∙ sym (ap bytes_of c.in-Soft.is))
