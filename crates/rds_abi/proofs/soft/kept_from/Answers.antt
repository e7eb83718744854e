use Rattle.rds_abi.proofs.Shared.{◌∙◌, ap, take, take_rest}
use Rattle.rds_abi.proofs.soft.kept_from.Goals as goal

pub returns : goal.returns
returns c = c.in-Some.ensures.cases.same ∙ ap (take 240) (take_rest c.args.symbols.now c.args.first)
