use Rattle.std.proofs.Common.{◌≡◌, ℕ, ◌+◌, List, slice_index, bit_xor, min, ◌∙◌}
use Rattle.rds_soft.proofs.LaneLemmas.{block_more}
use Rattle.rds_soft.proofs.lightest.fill_next.Goals as goal

pub loop-block-preserved : goal.loop-block-preserved
loop-block-preserved c =
    let row : List ℕ = c.args.row.now in
    let next : List ℕ = c.store.new.next in
    record {
      long = c.store.ensures.long;
      first = block_more (λ (s : ℕ). slice_index next s ≡ min (slice_index row s) (slice_index row (bit_xor s c.args.effect) + c.args.confidence))
          c.loop-block.block
          (λ s less. c.store.ensures.below s less ∙ c.loop-block.invariant.first s less)
          (λ j less. c.store.ensures.here j less ∙ c.next_block.ensures.first j less);
    }
