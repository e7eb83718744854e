use Rattle.rds_soft.proofs.Names.{◌≡◌, ◌<◌, ℕ, bit_at, ◌+◌, ◌-◌, ◌*◌, ◌^◌, ◌%◌, ◌∙◌, List, packed_bit, ap, arith, bit_xor, sign_at}
use Rattle.rds_soft.proofs.PackLemmas.{bit_between, joined_bit, next_bit, word_bit}
use Rattle.rds_soft.proofs.pack.bytes_between.Goals as goal

pub returns : goal.returns
returns c i inside =
    let P : ℕ → ℕ = sign_at c.args.symbols.now in
    let high : ℕ = c.half_signs-high.result in
    let low : ℕ = c.half_signs-low.result in
    let signs : ℕ = high * 2 ^ 32 + low in
    let last : ℕ = c.sign_of.result in
    let next : ℕ = signs % 2 ^ 63 * 2 ^ 1 + last in
    let each : (k : ℕ) → k < 64 → bit_at signs (63 - k) ≡ P k = λ k less.
    joined_bit P high low 32 0 c.half_signs-low.ensures.small c.half_signs-high.ensures.each c.half_signs-low.ensures.each k less
    ∙ ap P (omega arith) in
    ap (λ (bytes : List ℕ). packed_bit bytes i) c.to_be_bytes.ensures
    ∙ word_bit (bit_xor signs next) i inside
    ∙ bit_between c.args.symbols.now signs next (63 - i) i (omega (arith, c.told-symbols, inside))
    (each i inside) (next_bit P signs last c.sign_of.ensures.digit each c.sign_of.ensures.value i inside)
