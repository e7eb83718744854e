use Rattle.rds_code.proofs.Names.{◌≡◌, ap, sym, arith, bit_at, shr_and_one, bit_at-lt, offset_by_version}
use Rattle.rds_code.proofs.encoding.third_offset.Goals as goal

pub returns-else-second-eq1 : goal.returns-else-second-eq1
returns-else-second-eq1 c =
    let second = c.args.second in
    let unset : bit_at second 11 ≡ 0 = omega (arith, c.if-second-eq1.false, shr_and_one second 11, bit_at-lt second 11) in
    ap offset_by_version (sym unset)
