use Rattle.rds_sync.proofs.Lemmas.{List, All, sym, subst, arith, Start, IsStart, found_at}
use Rattle.rds_sync.proofs.indexed_items.IndexedItems.spans_from.Goals as goal

pub prove-unreachable-requires : goal.prove-unreachable-requires
prove-unreachable-requires c =
    let s = c.self.inside in
    let starts = subst (λ (ss : List Start). All (IsStart s.source.now.value s.rules s.spans.now) ss) (sym c.deref.ensures.value) c.self.invariant.1 in
    let start = c.last_start-start.ensures.start s.source.now.value s.rules s.spans.now starts in
    omega (arith, start.within, c.if-prove.true)

pub returns : goal.returns
returns c =
    let s = c.self.inside in
    let starts = subst (λ (ss : List Start). All (IsStart s.source.now.value s.rules s.spans.now) ss) (sym c.deref.ensures.value) c.self.invariant.1 in
    let start = c.last_start-start.ensures.start s.source.now.value s.rules s.spans.now starts in
    found_at c.args.self.now s.source.now.value s.rules s.spans.now c.spans_from.result.0.now c.last_start-start.result.span c.last_start-start.result.before
    c.args.from c.spans_from.result.1 c.self.view_is c.self.invariant.0.all start.before c.last_start-start.ensures.before
    (c.spans_from.ensures.at s.source.now.value s.rules)
