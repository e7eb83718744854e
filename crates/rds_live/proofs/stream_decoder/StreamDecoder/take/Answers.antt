use Rattle.rds_live.proofs.Names.{common_steps, ◌++◌, ◌∙◌, List, ap, arith, subst, sym, take, length-take-le, Item, HasHeard, LiveOf, complete}
use Rattle.rds_live.proofs.stream_decoder.StreamDecoder.take.Goals as goal

pub returns-clause-heard : goal.returns-clause-heard
returns-clause-heard c before h =
    let some = take c.min-count.result c.args.bytes.now in
    subst (λ (l : LiveOf). HasHeard l (before ++ some)) (sym c.take_part.ensures.next) (c.next_is_heard.ensures c.args.self.now before some c.is_known.ensures.range c.is_known.ensures.live h).0

pub returns-clause-items : goal.returns-clause-items
returns-clause-items c before h =
    let some = take c.min-count.result c.args.bytes.now in
    sym (ap (λ (xs : List Item). complete c.args.self.now.terms before ++ xs) c.take_part.ensures.completed
    ∙ (c.next_is_heard.ensures c.args.self.now before some c.is_known.ensures.range c.is_known.ensures.live h).1)

pub returns-clause-place : goal.returns-clause-place
returns-clause-place c = grind (arith, common_steps, length-take-le)

pub returns-clause-small : goal.returns-clause-small
returns-clause-small c = grind (arith, common_steps, length-take-le)
