use Rattle.rds_sync.proofs.Lemmas.{◌≡◌, ◌-◌, List, ◌∷◌, drop, length, ap, sym, subst, All, ◌∙◌, arith, length-append, All-head, All-tail, Span, items_in, items_of, IsSpan, past_first}
use Rattle.rds_sync.proofs.items.spans_from.Goals as goal

pub loop-span-preserved : goal.loop-span-preserved
loop-span-preserved c b rules all =
    let at = c.loop-span.invariant b rules all in
    let span = c.in-Some.span.now in
    let after = c.in-Some.others.now in
    let left = c.loop-span.left in
    let is = c.in-Some.ensures.cases.0 in
    let all_left = subst (λ (spans : List Span). All (IsSpan b rules) spans) is at.all in
    let len = c.len-len.ensures b rules (All-head (IsSpan b rules) span after all_left) in
    record {
      same = ap (λ n. drop (left - n) (items_in b rules after)) len
          ∙ past_first b rules span after left (omega (arith, c.if-left-len.false, len))
          ∙ ap (λ (spans : List Span). drop left (items_in b rules spans)) (sym is)
          ∙ at.same;
      passed = omega (
        arith,
        c.if-left-len.false,
        len,
        at.passed,
        ap (λ (spans : List Span). length (items_in b rules spans)) is,
        length-append (items_of b rules span) (items_in b rules after),
      );
      all = All-tail (IsSpan b rules) span after all_left;
    }

pub returns-then-left-len-clause-first : goal.returns-then-left-len-clause-first
returns-then-left-len-clause-first c b rules all span others is =
    let own = c.in-Some.ensures.cases.0 in
    let both : c.in-Some.span.now ∷ c.in-Some.others.now ≡ span ∷ others = sym own ∙ is in
    let same : c.in-Some.span.now ≡ span = cc both in
    let at = c.loop-span.invariant b rules all in
    let all_left = subst (λ (spans : List Span). All (IsSpan b rules) spans) own at.all in
    let len = c.len-len.ensures b rules (All-head (IsSpan b rules) c.in-Some.span.now c.in-Some.others.now all_left) in
    omega (arith, c.if-left-len.true, len, ap (λ (s : Span). length (items_of b rules s)) same)
