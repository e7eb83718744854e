use Rattle.std.{proofs.Common.◌≡◌, proofs.Common.◌++◌, proofs.Common.◌∙◌, proofs.Common.List, proofs.Common.ap, proofs.Common.refl, specs.List.flat_map}
use Rattle.rds_sync.specs.{Advance.group_item, Step.items_of_end, declared.totals.Totals.Totals}
use Rattle.rds_tool.specs.{Listing.item_row, Listing.totals_text, Outcome.list_text}
use Rattle.rds_tool.proofs.{Passes.err_more, Passes.ok_more, Passes.prefix_first, Passes.report_rows, Passing.on_any_err, one_pass.OnePass.write_list.Given.Over, one_pass.OnePass.write_list.Goals.After-write_end}
use Rattle.rds_tool.proofs.one_pass.OnePass.write_list.Goals as goal

module _ (g : Over) (c : After-write_end g) where
  -- the rows of all items, and then those of all totals
  text_is : flat_map item_row c.new-decoder.result.items ++ (flat_map item_row c.take_end.new.items.items ++ totals_text c.write_end.new.self.totals)
      ≡ list_text c.args.rules.now c.args.recording.now
  text_is =
      let d = c.new-decoder.result in
      let counted = c.write_end.ensures.counted d.items c.in_ok-write_items.ensures.counted in
      ap (λ (t : Totals). flat_map item_row d.items ++ (flat_map item_row c.take_end.new.items.items ++ totals_text t)) counted.are
      ∙ report_rows c.args.recording.now c.args.rules.now c.len-len.result c.len-len.ensures.value d c.new-decoder.ensures c.reach.ensures.range.loss.0
      c.runs_are_reports.ensures c.end_state-end.result (c.end_state-end.ensures ∙ c.in_ok-write_items.ensures.end)
      c.take_end.new.items.items (c.take_end.ensures.items ∙ c.group_at_end.ensures)

pub returns-clause-ok : goal.returns-clause-ok
returns-clause-ok g c =
    ok_more c.write_end.result _ _ _ _ _ _ (text_is g (goal.at.returns-clause-ok g c).After-write_end) c.in_ok-write_items.ensures.ok c.write_end.ensures.ok

pub returns-clause-prefix : goal.returns-clause-prefix
returns-clause-prefix g c =
    err_more c.write_end.result _ _ _ _ _ _ (text_is g (goal.at.returns-clause-prefix g c).After-write_end) c.in_ok-write_items.ensures.ok c.write_end.ensures.prefix

pub returns-in_err-write_items-clause-prefix : goal.returns-in_err-write_items-clause-prefix
returns-in_err-write_items-clause-prefix g c =
    let d = c.new-decoder.result in
    on_any_err c.from_residual.result
    (prefix_first _ _ (flat_map item_row d.items) _ _
    (report_rows c.args.recording.now c.args.rules.now c.len-len.result c.len-len.ensures.value d c.new-decoder.ensures c.reach.ensures.range.loss.0
    c.runs_are_reports.ensures d.end refl (items_of_end c.args.recording.now c.args.rules.now d.end) refl)
    c.in_err-write_items.ensures.prefix)
