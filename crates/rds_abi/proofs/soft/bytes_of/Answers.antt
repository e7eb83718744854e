use Rattle.rds_abi.proofs.Shared.{◌≡◌, ◌∙◌, ℕ, List, ap, arith, length, sym, length-map, packed_bit, ℤ, cast_signed, w8, symbols_of, hard_bit}
use Rattle.rds_abi.proofs.soft.bytes_of.Goals as goal

long : (raw : List ℕ) (symbols : List ℤ) → symbols_of raw ≡ symbols → length raw ≡ length symbols
long raw symbols same = sym (length-map raw (cast_signed w8)) ∙ ap (λ (xs : List ℤ). length xs) same

pub whole_bytes-requires-clause-enough : goal.whole_bytes-requires-clause-enough
whole_bytes-requires-clause-enough c =
    let same = ap symbols_of c.deref.ensures.value ∙ c.in_ok-raw.ensures in
    omega (arith, c.in_ok-packed.ensures.enough, long c.deref.result.now c.args.symbols.now same, c.deref-2.ensures.len)

pub whole_bytes-requires-clause-bits : goal.whole_bytes-requires-clause-bits
whole_bytes-requires-clause-bits c = λ i within.
    let same = ap symbols_of c.deref.ensures.value ∙ c.in_ok-raw.ensures in
    ap (λ (xs : List ℕ). packed_bit xs i) c.deref-2.ensures.value
    ∙ c.in_ok-packed.ensures.bits i (omega (arith, within, long c.deref.result.now c.args.symbols.now same)) ∙ ap (λ (xs : List ℤ). hard_bit xs i) same
