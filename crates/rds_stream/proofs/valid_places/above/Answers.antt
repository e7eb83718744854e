use Rattle.rds_stream.proofs.Names.{◌≡◌, ◌+◌, ◌/◌, ◌^◌, ◌∙◌, ap, arith, bit_at}
use Rattle.rds_stream.proofs.BitOrder.{shr_bit}
use Rattle.rds_stream.proofs.valid_places.above.Goals as goal

pub returns : goal.returns
returns c k =
    let word = c.args.word in
    let bit = c.args.bit in
    let there : bit + (1 + k) ≡ k + (bit + 1) = omega arith in
    shr_bit (word / 2 ^ bit) 1 k ∙ shr_bit word bit (1 + k) ∙ ap (bit_at word) there
