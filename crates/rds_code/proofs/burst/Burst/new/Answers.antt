use Rattle.std.proofs.Common.{sym, arith}
use Rattle.rds_code.proofs.ShapeLemmas.{shape_is_pattern, shape_kept}
use Rattle.rds_code.proofs.burst.Burst.new.Goals as goal

pub overflow_cast-result : goal.overflow_cast-result
overflow_cast-result c = omega (arith, (shape_is_pattern c.args.pattern c.requires).few)

pub invariant_of-result : goal.invariant_of-result
invariant_of-result c = shape_kept c.args.pattern c.requires

pub returns : goal.returns
returns c = sym (shape_is_pattern c.args.pattern c.requires).whole
