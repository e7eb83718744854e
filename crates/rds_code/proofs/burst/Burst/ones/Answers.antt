use Rattle.rds_code.proofs.Names.{◌*◌, ◌^◌, ◌∙◌, sym, ap, arith, ones}
use Rattle.rds_code.proofs.SpanLemmas.{ones-pattern, ones_pos, ones-le_span}
use Rattle.rds_code.proofs.burst.Burst.ones.Goals as goal

pub returns-clause-value : goal.returns-clause-value
returns-clause-value c = sym (ones-pattern c.self.inside.shape c.self.inside.shift) ∙ ap ones c.self.view_is

pub returns-clause-least : goal.returns-clause-least
returns-clause-least c =
    let m = c.self.inside.shape in
    let t = c.self.inside.shift in
    omega (arith, ones-pattern m t, ones_pos 5 (m * 2 ^ t) c.self.invariant.burst)

pub returns-clause-most : goal.returns-clause-most
returns-clause-most c =
    let m = c.self.inside.shape in
    let t = c.self.inside.shift in
    omega (arith, ones-pattern m t, ones-le_span 5 (m * 2 ^ t) c.self.invariant.burst, c.self.invariant.burst.short)
