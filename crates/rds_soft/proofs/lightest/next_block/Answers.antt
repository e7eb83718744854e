use Rattle.rds_soft.proofs.Names.{◌≡◌, ℕ, ◌<◌, ◌+◌, ◌*◌, ◌/◌, ◌%◌, List, slice_index, bit_xor, ap, ◌∙◌, arith, xor_lt}
use Rattle.rds_soft.proofs.LaneLemmas.{sum_turned, turned_within, capped}
use Rattle.rds_soft.proofs.lightest.next_block.Goals as goal

pub block_of-requires : goal.block_of-requires
block_of-requires c = record {
  row = c.requires.row;
  block = xor_lt 6 c.args.block (c.args.effect / 16) c.requires.block (omega (arith, c.requires.effect));
}

pub returns-clause-first : goal.returns-clause-first
returns-clause-first c j less =
    let row : List ℕ = c.args.row.now in
    let e : ℕ = c.args.effect in
    let at : ℕ = bit_xor j (e % 16) in
    let within : at < 16 = turned_within j e less in
    let flipped : slice_index c.turned-flipped.result j ≡ slice_index row (bit_xor (16 * c.args.block + j) e) =
    c.turned-flipped.ensures.each j less ∙ c.block_of.ensures.each at within
    ∙ ap (slice_index row) (sum_turned c.args.block j e less) in
    c.smaller.ensures.each j less
    ∙ capped (slice_index c.block_of-kept.result j) (slice_index c.heavier.result j) (slice_index row (16 * c.args.block + j))
    (slice_index row (bit_xor (16 * c.args.block + j) e)) (slice_index c.turned-flipped.result j) c.args.confidence
    (c.block_of-kept.ensures.each j less) (omega (arith, c.block_of-kept.ensures.each j less, c.type_inv.row (16 * c.args.block + j))) flipped (c.heavier.ensures.each j less)
