use Rattle.rds_tool.proofs.Names.{[], sym, append-nil}
use Rattle.rds_tool.{specs.Inside.Texts.bytes_of, proofs.Followed.on_any_ok, proofs.Tied.appends_kept}
use Rattle.rds_tool.proofs.task.Text.write_to.Goals as goal

pub returns-in-Ok-clause-ok : goal.returns-in-Ok-clause-ok
returns-in-Ok-clause-ok g c = on_any_ok _ (appends_kept _ _ _ _ c.in-Ok.ensures.ok c.flush.ensures.bytes)

pub returns-in-Ok-clause-prefix : goal.returns-in-Ok-clause-prefix
returns-in-Ok-clause-prefix g c = λ _. (bytes_of c.args.self.now, [], sym (append-nil _), appends_kept _ _ _ _ c.in-Ok.ensures.ok c.flush.ensures.bytes)
