use Rattle.rds_sync.proofs.Lemmas.{◌-◌, ◌++◌, List, ap, ap₂, refl, sym, ◌∙◌, Item, Searching, Totals, plus, ItemsOf, listed, run, items_of_end, totals_of, report-run, totals_of_append}
use Rattle.rds_stream.specs.Tape.{TapeState}
use Rattle.rds_sync.proofs.report.decode_plain.Goals as goal

pub returns-clause-items : goal.returns-clause-items
returns-clause-items c =
    let b = c.args.rec.now in
    let rules = c.args.rules.now in
    let end = c.in_ok-end.end in
    c.in_ok-close.ensures.ok
    ∙ ap (λ (i : ItemsOf). listed i.source i.rules (i.list ++ items_of_end i.source i.rules end)) c.in_ok-end.ensures.items
    ∙ ap (λ (is : List Item). listed b rules is)
    (report-run b rules c.len-len.result end _ c.reach.ensures.range.loss.0 c.len-len.ensures.value c.in_ok-end.ensures.state refl)

pub returns-clause-totals : goal.returns-clause-totals
returns-clause-totals c =
    let b = c.args.rec.now in
    let rules = c.args.rules.now in
    let end = c.in_ok-end.end in
    let ended = c.finish-group.ensures.group ∙ ap (λ (t : TapeState). items_of_end t.signal rules end) c.new.ensures in
    let items : List Item = (run b rules Searching 0 (c.len-len.result - 0)).1 in
    c.plus.ensures.value
    ∙ ap₂ (λ (t u : Totals). plus t u) c.in_ok-end.ensures.totals (c.of_end.ensures.value ∙ ap (λ (is : List Item). totals_of is) ended)
    ∙ sym (totals_of_append items (items_of_end b rules end))
    ∙ ap (λ (is : List Item). totals_of is)
    (report-run b rules c.len-len.result end _ c.reach.ensures.range.loss.0 c.len-len.ensures.value c.in_ok-end.ensures.state refl)
