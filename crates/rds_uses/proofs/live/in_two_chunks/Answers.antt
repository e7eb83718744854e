use Rattle.rds_uses.proofs.Names.{Item, List, LiveOf, ap, ap₂, ◌++◌, ◌∙◌}
use Rattle.rds_live.specs.Next.{completed, live_next}
use Rattle.rds_uses.proofs.live.in_two_chunks.Goals as goal

pub returns : goal.returns
returns c =
    let second = c.args.second.now in
    let pieces = c.pieces_join.ensures c.args.live.now c.args.first.now second c.requires c.tail.ensures.live in (
      c.in_ok-other.ensures.next ∙ ap (λ (live : LiveOf). live_next live second) c.in_ok-one.ensures.next ∙ pieces.0,
      ap₂ (λ (xs ys : List Item). xs ++ ys) c.in_ok-one.ensures.completed
          (c.in_ok-other.ensures.completed ∙ ap (λ (live : LiveOf). completed live second) c.in_ok-one.ensures.next)
          ∙ pieces.1,
    )
