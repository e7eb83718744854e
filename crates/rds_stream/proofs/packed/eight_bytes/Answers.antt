use Rattle.rds_stream.proofs.Names.{◌≡◌, ◌+◌, ◌-◌, ◌*◌, ◌/◌, ◌%◌, ◌∙◌, ap, arith, get_or, ap₂, bit_at}
use Rattle.rds_stream.proofs.BitOrder.{eight_neighbours}
use Rattle.rds_stream.proofs.packed.eight_bytes.Goals as goal

pub returns : goal.returns
returns c k within =
    let bytes = c.args.bytes.now in
    let first = c.args.first in
    let byte : first + k / 8 ≡ (8 * first + k) / 8 = omega arith in
    let bit : 7 - k % 8 ≡ 7 - (8 * first + k) % 8 = omega arith in
    c.lowest_first.ensures k within
    ∙ ap₂ (λ x y. bit_at x y) (eight_neighbours bytes first (k / 8) (omega arith) ∙ ap (λ j. get_or bytes j 0) byte) bit
