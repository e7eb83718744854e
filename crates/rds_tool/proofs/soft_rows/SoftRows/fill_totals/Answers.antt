use Rattle.rds_tool.proofs.Names.{Bor, List, ap, arith, refl, sym, append_assoc, ◌++◌, ◌-◌, ◌∙◌, ℕ, flat_map, flat_map-append, text_of, IsPlain, IsShort, named_totals, named_flips, total_row}
use Rattle.rds_tool.proofs.Spelled.{each_of_some, some_changed, two_lists}
use mathlib.Core.Path.{ap₂}
use Rattle.rds_tool.proofs.soft_rows.SoftRows.fill_totals.Goals as goal

pub returns-clause-rows : goal.returns-clause-rows
returns-clause-rows c =
    let totals = c.args.self.now.totals.now in
    let value : Bor (List ℕ) × ℕ → List ℕ × ℕ = λ total. (total.0.now, total.1) in
    let first = c.min-first.result in
    let last = c.min-last.result in
    let hard = some_changed value c.totals_with_names-hard.result (named_totals totals.totals) first (last - first) c.totals_with_names-hard.ensures.named in
    let flips = some_changed value c.flips_with_names-flips.result (named_flips totals) (c.args.from - first) ((c.args.to - last) - (c.args.from - first)) c.flips_with_names-flips.ensures.named in
    c.fill_totals-2.ensures.rows
    ∙ ap₂ (λ s t. s ++ flat_map total_row t) (c.fill_totals.ensures.rows ∙ ap (λ t. text_of c.args.sheet.now ++ flat_map total_row t) hard) flips
    ∙ append_assoc (text_of c.args.sheet.now) _ _
    ∙ ap (λ t. text_of c.args.sheet.now ++ t)
    (sym (flat_map-append total_row _ _)
    ∙ ap (flat_map total_row) (sym (two_lists (named_totals totals.totals) (named_flips totals) c.args.from c.args.to first last c.requires.order (omega (arith, c.min-first.ensures)) (omega (arith, c.min-last.ensures)))))

pub fill_totals-requires-clause-plain : goal.fill_totals-requires-clause-plain
fill_totals-requires-clause-plain c = each_of_some (λ (total : Bor (List ℕ) × ℕ). IsPlain total.0.now) c.totals_with_names-hard.result _ _ c.totals_with_names-hard.ensures.plain

pub fill_totals-requires-clause-short : goal.fill_totals-requires-clause-short
fill_totals-requires-clause-short c = each_of_some (λ (total : Bor (List ℕ) × ℕ). IsShort total.0.now) c.totals_with_names-hard.result _ _ c.totals_with_names-hard.ensures.short
