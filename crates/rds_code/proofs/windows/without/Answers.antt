use Rattle.rds_code.proofs.Names.{◌^◌, ◌<◌, sym, subst, arith, xor_lt}
use Rattle.rds_code.proofs.windows.without.Goals as goal

pub overflow_cast-result : goal.overflow_cast-result
overflow_cast-result c =
    let small : c.pattern.result < 2 ^ 26 = subst (λ e. e < 2 ^ 26) (sym c.pattern.ensures.value) c.pattern.ensures.burst.is_block in
    omega (arith, xor_lt 26 c.args.w c.pattern.result c.requires small)
