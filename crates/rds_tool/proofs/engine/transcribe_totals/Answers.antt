use Rattle.rds_tool.proofs.Names.{rules, ◌∙◌, InputCounterOf, RuleNumbers, ap, refl}
use Rattle.rds_tool.specs.Inside.Counters.{text_of_counted}
use Rattle.rds_tool.proofs.Texts.{totals_uncut}
use Rattle.rds_tool.specs.declared.task.Task.TheVariants as task
use Rattle.rds_tool.proofs.engine.transcribe_totals.Goals as goal

pub transcribe_by-requires-sync-R : goal.transcribe_by-requires-sync-R
transcribe_by-requires-sync-R g c = λ κs w.
    (search rules, ((refl, tt), (c.requires.reads, (c.requires.writes, ap (λ (k : InputCounterOf). k.text) c.in_ok-counter.ensures.new))))

pub returns-then-may_have_gaps : goal.returns-then-may_have_gaps
returns-then-may_have_gaps g c = λ job is.
    c.transcribe_by.ensures job (task.Totals c.args.input c.args.plan) is
    (λ bytes.
    ap (λ (k : InputCounterOf). text_of_counted k.input k.rules bytes) c.in_ok-counter.ensures.new
    ∙ ap (λ (r : RuleNumbers). text_of_counted c.args.input r bytes) c.rules.ensures
    ∙ totals_uncut c.args.input c.args.plan bytes (c.is_cut_evenly.ensures c.if-is_cut_evenly.true))
