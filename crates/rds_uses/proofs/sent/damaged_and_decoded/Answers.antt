use Rattle.rds_uses.proofs.Names.{IfOk-weaker, ◌∙◌}
use Rattle.rds_uses.proofs.sent.damaged_and_decoded.Goals as goal

pub returns-clause-sent_totals : goal.returns-clause-sent_totals
returns-clause-sent_totals c =
    let range = c.loss-loss.ensures.range in
    IfOk-weaker c.decode_plain.result _ _ (λ report counted words groups whole heard.
    counted ∙ (c.sent_groups_are_listed.ensures c.args.recording.now c.args.rules.now words groups range.loss.0 range.some_reach range.burst whole heard).1)
    c.decode_plain.ensures.totals
