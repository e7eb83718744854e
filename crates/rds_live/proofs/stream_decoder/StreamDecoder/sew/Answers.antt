use Rattle.rds_live.proofs.Names.{ap, ◌∙◌, LiveOf, live_next}
use Rattle.rds_live.proofs.Sewing.{both-within, guessed-there}
use Rattle.rds_live.proofs.stream_decoder.StreamDecoder.sew.Goals as goal

pub returns-else-is_in-clause-next : goal.returns-else-is_in-clause-next
returns-else-is_in-clause-next c = c.count-else-is_in.ensures.next ∙ ap (λ (l : LiveOf). live_next l c.args.rest.now) c.count.ensures.next

pub returns-else-is_in-clause-small : goal.returns-else-is_in-clause-small
returns-else-is_in-clause-small c = both-within _ _ _ _ _ c.count.ensures.small c.count-else-is_in.ensures.small

pub take_over-requires-clause-guess : goal.take_over-requires-clause-guess
take_over-requires-clause-guess c =
    guessed-there c.args.self.now c.count.new.self c.args.guess c.args.seam.now c.args.mark c.args.rest.now c.requires.guess c.count.ensures.next (c.is_in.ensures c.if-is_in.true)

pub returns-then-is_in-clause-next : goal.returns-then-is_in-clause-next
returns-then-is_in-clause-next c = c.take_over.ensures.next ∙ ap (λ (l : LiveOf). live_next l c.args.rest.now) c.count.ensures.next

pub returns-then-is_in-clause-small : goal.returns-then-is_in-clause-small
returns-then-is_in-clause-small c = both-within _ _ _ _ _ c.count.ensures.small c.take_over.ensures.small
