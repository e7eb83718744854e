use Rattle.std.proofs.{Common.rules, Common.◌∙◌, lemmas.Nat.le_bytes_8}
use Rattle.rds_tool.proofs.page.in_a_register.Goals as goal

pub returns : goal.returns
returns c = c.to_le_bytes.ensures ∙ le_bytes_8 c.args.bytes c.from_le_bytes.result (search rules) (search rules) c.from_le_bytes.ensures
