use Rattle.std.{proofs.Common.◌≡◌, proofs.Common.◌++◌, proofs.Common.◌∙◌, proofs.Common.ℕ, proofs.Common.List, proofs.Common.Bor, proofs.Common.ap, proofs.Common.map, specs.List.flat_map}
use Rattle.rds_rows.specs.Sheets.{text_of}
use Rattle.rds_tool.specs.Listing.{total_row}
use Rattle.rds_tool.proofs.one_pass.fill_all_totals.Goals as goal

pub returns : goal.returns
returns c = record {
  rows =
      let rows : List (Bor (List ℕ) × ℕ) → List ℕ = λ all. flat_map total_row (map (λ (total : Bor (List ℕ) × ℕ). (total.0.now, total.1)) all) in
      c.fill_totals.ensures.rows ∙ ap (λ (text : List ℕ). text_of c.args.sheet.now ++ text)
      (ap rows c.as_slice.ensures ∙ ap (λ (named : List (List ℕ × ℕ)). flat_map total_row named) c.totals_with_names-all.ensures.named);
}
