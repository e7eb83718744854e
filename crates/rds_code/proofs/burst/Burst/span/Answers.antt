use Rattle.rds_code.proofs.Names.{◌∙◌, sym, ap, arith, burst_length}
use Rattle.rds_code.proofs.ShapeLemmas.{span_of_shape}
use Rattle.rds_code.proofs.burst.Burst.span.Goals as goal

pub returns-clause-value : goal.returns-clause-value
returns-clause-value c = sym (span_of_shape c.self.inside.shape c.self.inside.shift c.self.invariant) ∙ ap burst_length c.self.view_is

pub returns-clause-most : goal.returns-clause-most
returns-clause-most c = omega (arith, span_of_shape c.self.inside.shape c.self.inside.shift c.self.invariant, c.self.invariant.burst.short)
