use Rattle.rds_tool.proofs.Names.{Bor, List, ap, ◌++◌, ◌-◌, ◌∙◌, ℕ, flat_map, text_of, IsPlain, IsShort, named_totals, total_row}
use Rattle.rds_tool.proofs.Spelled.{each_of_some, some_changed}
use Rattle.rds_tool.proofs.listing_rows.ListingRows.fill_totals.Goals as goal

pub returns-clause-rows : goal.returns-clause-rows
returns-clause-rows c =
    let some = some_changed (λ (total : Bor (List ℕ) × ℕ). (total.0.now, total.1)) c.totals_with_names-all.result (named_totals c.args.self.now.totals.now) c.args.from (c.args.to - c.args.from) c.totals_with_names-all.ensures.named in
    c.fill_totals.ensures.rows ∙ ap (λ t. text_of c.args.sheet.now ++ flat_map total_row t) some

pub fill_totals-requires-clause-plain : goal.fill_totals-requires-clause-plain
fill_totals-requires-clause-plain c = each_of_some (λ (total : Bor (List ℕ) × ℕ). IsPlain total.0.now) c.totals_with_names-all.result c.args.from (c.args.to - c.args.from) c.totals_with_names-all.ensures.plain

pub fill_totals-requires-clause-short : goal.fill_totals-requires-clause-short
fill_totals-requires-clause-short c = each_of_some (λ (total : Bor (List ℕ) × ℕ). IsShort total.0.now) c.totals_with_names-all.result c.args.from (c.args.to - c.args.from) c.totals_with_names-all.ensures.short
