use Rattle.rds_live.proofs.Names.{◌++◌, ◌∙◌, List, ap, subst, sym, Item, HasHeard, LiveOf, complete}
use Rattle.rds_live.proofs.stream_decoder.StreamDecoder.take_all.Goals as goal

pub returns-in-Ok-clause-heard : goal.returns-in-Ok-clause-heard
returns-in-Ok-clause-heard c before h =
    subst (λ (l : LiveOf). HasHeard l (before ++ c.args.bytes.now)) (sym c.in-Ok.ensures.next)
    (c.next_is_heard.ensures c.args.self.now before c.args.bytes.now c.is_known.ensures.range c.is_known.ensures.live h).0

pub returns-in-Ok-clause-items : goal.returns-in-Ok-clause-items
returns-in-Ok-clause-items c before h =
    sym (ap (λ (xs : List Item). complete c.args.self.now.terms before ++ xs) c.in-Ok.ensures.completed
    ∙ (c.next_is_heard.ensures c.args.self.now before c.args.bytes.now c.is_known.ensures.range c.is_known.ensures.live h).1)
