use Rattle.rds_sync.proofs.Names.{◌≡◌, ℕ, List, All, length, sym, subst, ap, ◌∙◌, arith, Span, ItemsOf, AreSpans, IsStart}
use Rattle.rds_sync.proofs.items.Items.indexed.Goals as goal

pub invariant_of-result : goal.invariant_of-result
invariant_of-result c =
    let s = c.self.inside in
    let b = s.source.value in
    let are = c.self.invariant in
    let read = c.deref.ensures.value in
    let kept = c.deref-2.ensures.value in
    let len : s.len ≡ c.len-len.result = omega (arith, c.len-len.ensures, are.count, ap (λ (items : ItemsOf). length items.list) c.self.view_is) in
    let read_are = subst (λ (spans : List Span). AreSpans b s.rules spans s.len) (sym read) are in (
      subst (λ (n : ℕ). AreSpans b s.rules c.deref-2.result.now n) len (subst (λ (spans : List Span). AreSpans b s.rules spans s.len) (sym kept) are),
      subst (λ (spans : List Span). All (IsStart b s.rules spans) c.in_ok-starts.starts.items) (read ∙ sym kept)
          (c.in_ok-starts.ensures b s.rules read_are.all (omega (arith, len, read_are.count))),
    )
