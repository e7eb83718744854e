use Rattle.rds_stream.proofs.Names.{◌≡◌, ℕ, ◌+◌, ◌-◌, ◌*◌, ◌/◌, ◌%◌, ◌∙◌, ap, arith, get_or, Fits, w8, rules, bit_at}
use Rattle.rds_stream.proofs.BitOrder.{byte_bit, eight_bytes}
use Rattle.rds_stream.proofs.bit_order.lowest_first.Goals as goal

pub returns : goal.returns
returns c k within =
    let bytes = c.args.bytes in
    let f : ℕ → ℕ = λ i. get_or bytes i 0 in
    let n = c.from_le_bytes-highest_first.result in
    let one = k + 1 - 2 * (k % 2) in
    let two = one + 2 - 4 * (one / 2 % 2) in
    let three = two + 4 - 8 * (two / 4 % 2) in
    let turned : three ≡ 8 * (k / 8) + (7 - k % 8) = omega arith in
    let first : 0 + k / 8 ≡ k / 8 = omega arith in
    c.places_swapped.ensures k within ∙ c.pairs_swapped-by_pairs.ensures one (omega arith) ∙ c.fours_swapped-by_fours.ensures two (omega arith)
    ∙ ap (bit_at n) turned ∙ ap (λ x. bit_at x (8 * (k / 8) + (7 - k % 8))) (c.from_le_bytes-highest_first.ensures ∙ eight_bytes f)
    ∙ byte_bit f 8 0 (k / 8) (7 - k % 8) (λ i. let fits : Fits w8 (get_or bytes i 0) = search rules in fits.fits) (omega arith) (omega arith) ∙ ap (λ i. bit_at (f i) (7 - k % 8)) first
