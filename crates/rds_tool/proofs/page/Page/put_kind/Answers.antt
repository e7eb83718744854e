use Rattle.rds_tool.proofs.Names.{common_steps}
use Rattle.rds_tool.proofs.Decimals.{one_digit, spelled}
use Rattle.std.proofs.Common.{◌++◌, ◌∙◌, ◌∷◌, ap, arith}
use Rattle.rds_tool.proofs.page.Page.put_kind.Goals as goal

pub returns-then-kind-lt10-clause-text : goal.returns-then-kind-lt10-clause-text
returns-then-kind-lt10-clause-text c = grind (arith, common_steps, one_digit)

pub returns-then-kind-lt100-clause-text : goal.returns-then-kind-lt100-clause-text
returns-then-kind-lt100-clause-text c =
    rw c.in-Some.is (c.put-then-kind-lt100.ensures ∙ ap (λ t. c.args.self.now ++ 44 ∷ t) (spelled 1 c.in-Some.kind (omega arith) (omega arith) (omega arith)))

pub returns-else-kind-lt100-clause-text : goal.returns-else-kind-lt100-clause-text
returns-else-kind-lt100-clause-text c =
    rw c.in-Some.is (c.put-else-kind-lt100.ensures ∙ ap (λ t. c.args.self.now ++ 44 ∷ t) (spelled 2 c.in-Some.kind (omega arith) (omega arith) (omega arith)))
