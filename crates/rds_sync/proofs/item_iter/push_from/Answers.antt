use Rattle.rds_sync.proofs.Lemmas.{common_steps, ◌≡◌, [], List, All, subst, ◌∙◌, arith, inl, inr, All-tail, Span, IsSpan, items_in, span_taken, with_more, Item, ap, sym, ◌++◌}
use Rattle.rds_sync.proofs.item_iter.push_from.Goals as goal

pub loop-rest-init : goal.loop-rest-init
loop-rest-init c = grind (arith, common_steps, with_more, items_in, c.requires.spans, c.push_until.ensures.items, c.push_until.ensures.full, c.push_until.ensures.most, c.push_until.ensures.room)

pub loop-rest-preserved : goal.loop-rest-preserved
loop-rest-preserved c =
    let b = c.args.recording.now in
    let rules = c.args.rules.now in
    let before = c.loop-rest.invariant in
    let span = c.in-Some.span.now in
    let others = c.in-Some.others.now in
    let is = c.in-Some.ensures.cases.0 in
    let none : c.loop-rest.decoder.items ≡ [] = elim before.full [
      | inl none ↦ none
      | inr full ↦ absurd (omega (arith, full, c.loop-rest-test.true, c.len.ensures))
    ] in
    record {
      all = All-tail (IsSpan b rules) span others (subst (λ (spans : List Span). All (IsSpan b rules) spans) is before.all);
      items = span_taken b rules span others c.loop-rest.rest.now _ _ _ _ _ before.items none is
          (ap (λ (items : List Item). c.loop-rest.part.items ++ items) (sym c.of_span.ensures) ∙ c.push_until-in-loop-rest.ensures.items);
      full = c.push_until-in-loop-rest.ensures.full;
      most = c.push_until-in-loop-rest.ensures.most;
      room = c.push_until-in-loop-rest.ensures.room ∙ before.room;
    }
