use Rattle.rds_sync.proofs.Lemmas.{◌≡◌, List, ◌++◌, drop, ap, ap₂, sym, subst, ◌∙◌, arith, Signal, Item, Span, ItemsOf, listed, AreSpans, items_in, RuleNumbers, alike, over, items_after, spans_after}
use Rattle.rds_sync.proofs.items.Items.append_from.Goals as goal

pub invariant_of-self-2 : goal.invariant_of-self-2
invariant_of-self-2 c =
    let s = c.self.inside in
    let o = c.other.inside in
    let b = s.source.value in
    let same = alike _ _ _ _ _ _ _ _ c.self.view_is c.other.view_is c.requires.source c.requires.rules in
    let theirs = subst (λ (spans : List Span). AreSpans b s.rules spans o.len) (sym c.deref.ensures.value)
    (over _ _ _ _ o.spans.items o.len same.0 same.1 c.other.invariant) in
    let found = c.spans_from-left.ensures in
    let at = found.at b s.rules theirs.all in
    spans_after b s.rules s.spans.items c.deref.result.now c.spans_from-left.result.0.now c.push_past.new.spans.items s.len o.len
    c.saturating_sub.result c.in-Some.len c.args.first c.spans_from-left.result.1 c.self.invariant theirs at
    (c.in_ok-push_past.ensures.ok b s.rules at.all (found.first b s.rules theirs.all))
    (omega (arith, c.saturating_sub.ensures)) (omega (arith, c.in-Some.ensures))

pub returns-clause-ok : goal.returns-clause-ok
returns-clause-ok c =
    let s = c.self.inside in
    let o = c.other.inside in
    let b = s.source.value in
    let first = c.args.first in
    let same = alike _ _ _ _ _ _ _ _ c.self.view_is c.other.view_is c.requires.source c.requires.rules in
    let theirs = subst (λ (spans : List Span). AreSpans b s.rules spans o.len) (sym c.deref.ensures.value)
    (over _ _ _ _ o.spans.items o.len same.0 same.1 c.other.invariant) in
    let found = c.spans_from-left.ensures in
    let at = found.at b s.rules theirs.all in
    let list : items_in b s.rules c.deref.result.now ≡ c.args.other.now.list =
    ap (λ (spans : List Span). items_in b s.rules spans) c.deref.ensures.value
    ∙ ap₂ (λ (signal : Signal) (numbers : RuleNumbers). items_in signal numbers o.spans.items) (sym same.0) (sym same.1)
    ∙ ap (λ (items : ItemsOf). items.list) c.other.view_is in
    ap (λ (is : List Item). listed b s.rules is) (items_after b s.rules s.spans.items c.deref.result.now c.spans_from-left.result.0.now
    c.push_past.new.spans.items first c.spans_from-left.result.1 at
    (c.in_ok-push_past.ensures.ok b s.rules at.all (found.first b s.rules theirs.all))
    ∙ ap (λ (is : List Item). items_in b s.rules s.spans.items ++ drop first is) list)
    ∙ ap (λ (items : ItemsOf). listed items.source items.rules (items.list ++ drop first c.args.other.now.list)) c.self.view_is
