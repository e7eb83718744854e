use Rattle.rds_uses.proofs.Names.{eq-eqb, eqb-true, false≢true, sym, ◌∙◌}
use Rattle.std.specs.Int.Count.{ones}
use Rattle.rds_uses.proofs.sent.has_two_errors.Goals as goal

pub returns-then-is_block : goal.returns-then-is_block
returns-then-is_block c =
    let law = (c.miscorrections_are_counted.ensures.masks 2 26).exactly c.args.mask in
    (λ two. law.1 (c.is_block.ensures.0 c.if-is_block.true, eqb-true (ones c.args.mask) 2 two), λ listed. eq-eqb (ones c.args.mask) 2 (law.0 listed).1)

pub returns-else-is_block : goal.returns-else-is_block
returns-else-is_block c =
    let law = (c.miscorrections_are_counted.ensures.masks 2 26).exactly c.args.mask in
    (λ block. absurd (false≢true (sym c.if-is_block.false ∙ block)), λ listed. c.is_block.ensures.1 (law.0 listed).0)
