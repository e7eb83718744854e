use Rattle.rds_sync.proofs.Lemmas.{List, ◌++◌, All, ap, subst, ◌∙◌, All-tail, Item, Span, items_in, IsSpan, sym}
use Rattle.rds_sync.proofs.item_iter.next_in.Goals as goal

pub loop-span-preserved : goal.loop-span-preserved
loop-span-preserved c =
    let b = c.args.recording.now in
    let rules = c.args.rules.now in
    let before = c.loop-span.invariant in
    let span = c.in-Some-split_first.span.now in
    let after = c.in-Some-split_first.others.now in
    let is = c.in-Some-split_first.ensures.cases.0 in
    let none = c.in_default-next.ensures.steps.0 in
    record {
      all = All-tail (IsSpan b rules) span after (subst (λ (spans : List Span). All (IsSpan b rules) spans) is before.all);
      done = none.1;
      same = before.same ∙ ap (λ (spans : List Span). items_in b rules spans) is ∙ ap (λ (given : List Item). given ++ items_in b rules after) (sym c.of_span.ensures ∙ none.0);
    }
