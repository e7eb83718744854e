-- Signs, bits and windows of symbols.
use Rattle.rds_soft.proofs.Names.{◌≡◌, ℕ, ◌+◌, ◌-◌, ◌*◌, ◌<◌, true, false, List, length, get_or, take, arith, lit<, ℤ, if◌then◌else◌, is_positive, number_from_digits, get_or-map-range_with_len, length-map-range_with_len, sign, hard_bit, hard_bits}
use Rattle.std.proofs.lemmas.Int.Digits.{number_more}

pub sign_lt : (r : ℤ) → sign r < 2
sign_lt r = elim (is_positive r) as (λ b. (if b then 1 else 0) < 2) [ true ↦ lit< tt | false ↦ lit< tt ]

pub bit_of : (symbols : List ℤ) (i : ℕ) → i + 1 < length symbols → get_or (hard_bits symbols) i 0 ≡ hard_bit symbols i
bit_of symbols i within = get_or-map-range_with_len (hard_bit symbols) 0 (length symbols - 1) i i 0 (omega arith) (omega arith)

pub bit_count : (symbols : List ℤ) → length (hard_bits symbols) ≡ length symbols - 1
bit_count symbols = length-map-range_with_len (hard_bit symbols) 0 (length symbols - 1)

-- one bit more
pub bits_more : (symbols : List ℤ) (i : ℕ) → i + 1 < length symbols
    → number_from_digits 2 (take (i + 1) (hard_bits symbols)) ≡ 2 * number_from_digits 2 (take i (hard_bits symbols)) + hard_bit symbols i
bits_more symbols i within =
    let more = number_more 2 (hard_bits symbols) i (omega (arith, bit_count symbols)) in
    omega (arith, more, bit_of symbols i within)
