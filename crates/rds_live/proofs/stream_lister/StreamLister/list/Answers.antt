use Rattle.rds_live.proofs.Names.{◌++◌, ap, subst, sym, ListerOf, completed, HasHeard, LiveOf}
use Rattle.rds_live.proofs.stream_lister.StreamLister.list.Goals as goal

pub returns-in-Ok-clause-heard : goal.returns-in-Ok-clause-heard
returns-in-Ok-clause-heard g c before h =
    subst (λ (l : LiveOf). HasHeard l (before ++ c.args.bytes.now)) (sym (ap (λ (l : ListerOf). l.live) c.in-Ok.ensures.next))
    (c.next_is_heard.ensures c.args.self.live before c.args.bytes.now c.is_known.ensures.range c.is_known.ensures.live h).0

pub returns-in-Ok-clause-rows : goal.returns-in-Ok-clause-rows
returns-in-Ok-clause-rows g c before h = (
  completed c.args.self.live c.args.bytes.now,
  sym (c.next_is_heard.ensures c.args.self.live before c.args.bytes.now c.is_known.ensures.range c.is_known.ensures.live h).1,
  ap (λ (l : ListerOf). l.rows) c.in-Ok.ensures.next,
)
