use Rattle.rds_sync.proofs.Lemmas.{◌<◌, ◌∷◌, [], All, List, Vec, Global, length, sym, subst, ap, ◌∙◌, arith, All-append, All-cons, All-nil, Start, IsStart, counted_next}
use Rattle.rds_sync.proofs.indexed_items.starts_of.Goals.{then-span-eq0+in_ok-push, else-span-eq0}
use Rattle.rds_sync.proofs.indexed_items.starts_of.Goals as goal

pub loop-span-preserved : goal.loop-span-preserved
loop-span-preserved c b rules all few =
    let spans = c.args.spans.now in
    let k = c.loop-span.span in
    let has = c.loop-span.invariant b rules all few in
    let inside : k < length spans = omega (arith, c.loop-span-test.true, c.loop-span.auto.span-end) in
    let start : Start = record { span = k; before = c.loop-span.before } in
    record {
      count = counted_next b rules spans k _ c.loop-span.before c.len.result c.saturating_add-before.result inside has.count
          (c.len.ensures b rules (all k _ inside)) few c.saturating_add-before.ensures;
      all = elim c.if-span-eq0.branch [
        | then-span-eq0+in_ok-push w ↦
            subst (λ (ss : List Start). All (IsStart b rules spans) ss)
            (sym (ap (λ (starts : Vec Start Global). starts.items) w.starts-is ∙ w.in_ok-push.ensures.items))
            (All-append (IsStart b rules spans) c.loop-span.starts.items (start ∷ []) has.all
            (All-cons (IsStart b rules spans) start [] (record { within = omega (arith, inside); before = has.count }) (All-nil (IsStart b rules spans))))
        | else-span-eq0 w ↦
            subst (λ (ss : List Start). All (IsStart b rules spans) ss) (sym (ap (λ (starts : Vec Start Global). starts.items) w.starts-is)) has.all
      ];
    }
