use Rattle.std.proofs.Common.{◌++◌, ◌∙◌, List, OnErr, ap, subst, ℕ}
use Rattle.rds_rows.specs.Writes.{AppendsPrefix}
use Rattle.rds_tool.specs.Listing.{totals_text}
use Rattle.rds_tool.proofs.one_pass.OnePass.write_end.Goals as goal

pub returns-clause-prefix : goal.returns-clause-prefix
returns-clause-prefix g c =
    subst (λ (text : List ℕ). OnErr c.write_all.result (AppendsPrefix (g.K.Sink.contents c.args.writer.now) (g.K.Sink.contents c.write_all.new.writer) text))
    (c.as_slice.ensures ∙ c.fill_all_totals.ensures.rows ∙ ap (λ (rows : List ℕ). rows ++ totals_text c.add_rows.new.self.totals) c.add_rows.ensures.rows)
    c.write_all.ensures.prefix
