use Rattle.rds_soft.proofs.Names.{◌≡◌, ◌+◌, ap, ◌∙◌, arith, rules, add-one, ◌^◌, get_or, bit_xor, ℤ, pos, w8, pow-suc, to_z-of_z, sign, hard_bit}
use Rattle.rds_soft.proofs.SymbolLemmas.{bits_more}
use mathlib.Core.Path.{ap₂}
use Rattle.rds_soft.proofs.symbols.hard_window.Goals as goal
use mir.Val.{SFits}

pub loop-i-preserved : goal.loop-i-preserved
loop-i-preserved c =
    let i = c.loop-i.i in
    let one : ℤ = get_or c.args.symbols.now i (pos 0) in
    let next : ℤ = get_or c.args.symbols.now (i + 1) (pos 0) in
    let one_fits : SFits w8 one = search rules in
    let next_fits : SFits w8 next = search rules in
    let bit : c.bit_between.result ≡ hard_bit c.args.symbols.now i =
    c.bit_between.ensures.value ∙ ap₂ (λ (a b : ℤ). bit_xor (sign a) (sign b)) (to_z-of_z w8 one one_fits) (to_z-of_z w8 next next_fits) in
    let more = bits_more c.args.symbols.now i (omega (arith, c.told-symbols, c.loop-i-test.true)) in
    record {
      value = omega (arith, more, c.loop-i.invariant.value, bit);
      small = omega (arith, ap (λ k. 2 ^ k) (add-one i), pow-suc 2 i, c.loop-i.invariant.small, c.bit_between.ensures.digit);
    }
