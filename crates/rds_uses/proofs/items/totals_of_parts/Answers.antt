use Rattle.std.proofs.Common.{◌*◌, ◌^◌, length, arith}
use Rattle.rds_uses.proofs.items.totals_of_parts.Goals as goal

pub plus-requires : goal.plus-requires
plus-requires c = (
  2 ^ 10 * length c.args.one.now,
  2 ^ 10 * length c.args.other.now,
  omega (arith, c.requires),
  c.of.ensures.small,
  c.of-2.ensures.small,
)
