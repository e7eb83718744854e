use Rattle.std.proofs.Common.{◌^◌, arith}
use Rattle.rds_uses.proofs.items.rest_and_all.Goals as goal

pub plus-requires : goal.plus-requires
plus-requires c = (2 ^ 62, 2 ^ 62, omega arith, c.less.ensures.small (2 ^ 62) c.requires.small, c.requires.small)
