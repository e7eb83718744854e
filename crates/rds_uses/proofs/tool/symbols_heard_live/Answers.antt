use Rattle.rds_uses.proofs.Names.{on_ok_weaker}
use Rattle.rds_uses.proofs.tool.symbols_heard_live.Goals as goal

pub returns-clause-text : goal.returns-clause-text
returns-clause-text g c = on_ok_weaker c.follow_soft.result (λ f. (f.symbols, f.gave, f.text)) c.follow_soft.ensures.ok
