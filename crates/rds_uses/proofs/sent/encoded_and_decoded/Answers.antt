use Rattle.rds_uses.proofs.Names.{IfOk-weaker, Signal, ap, report_items, totals_of, ◌∙◌}
use Rattle.rds_uses.proofs.SentAndHeard.{sent-report}
use Rattle.rds_sync.specs.Decoding.{ItemsOf}
use Rattle.rds_uses.proofs.sent.encoded_and_decoded.Goals as goal

pub returns-clause-items : goal.returns-clause-items
returns-clause-items c =
    let rules = c.args.rules.now in
    let sent = sent-report c.encoded_groups_are_listed.ensures.listed rules c.args.groups.now c.requires.some c.loss-loss.ensures.range c.requires.words in
    IfOk-weaker c.decode_plain.result _ _
    (λ report is. ap (λ (items : ItemsOf). items.list) is ∙ ap (λ (b : Signal). report_items b rules) c.requires.bits ∙ sent.0) c.decode_plain.ensures.items

pub returns-clause-totals : goal.returns-clause-totals
returns-clause-totals c =
    let rules = c.args.rules.now in
    let sent = sent-report c.encoded_groups_are_listed.ensures.listed rules c.args.groups.now c.requires.some c.loss-loss.ensures.range c.requires.words in
    IfOk-weaker c.decode_plain.result _ _ (λ report is. is ∙ ap (λ (b : Signal). totals_of (report_items b rules)) c.requires.bits ∙ sent.1) c.decode_plain.ensures.totals
