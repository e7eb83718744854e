use Rattle.std.proofs.Common.{rules}
use Rattle.rds_tool.proofs.Decimals.{in_two_parts}
use Rattle.rds_tool.proofs.page.Page.put_front.Goals as goal

pub returns-clause-value : goal.returns-clause-value
returns-clause-value c =
    in_two_parts c.args.self.now c.put_short-2.new.self c.put.new.self c.decimal_digits.result c.args.n c.if-n-lt-EIGHT_DIGITS.false (search rules) c.put_short-2.ensures.value c.decimal_digits.ensures c.put.ensures
