use Rattle.std.proofs.Common.{ap₂}
use Rattle.rds_uses.proofs.code.only_remainder.Goals as goal

pub returns-clause-only : goal.returns-clause-only
returns-clause-only c =
    let one = c.blocks_have_one_remainder.ensures.one c.args.w in
    ap₂ (λ r s. (r, s)) (one c.rem26.result c.args.remainder c.rem26.ensures.remainder c.requires.remainder)
    (one c.rem26-2.result c.args.remainder c.rem26-2.ensures.remainder c.requires.remainder)
