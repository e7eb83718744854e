use Rattle.rds_live.proofs.Names.{◌+◌, ◌<◌, ◌^◌, ◌∙◌, ap, subst, sym, arith, length-set, Item, moved_item, place_of}
use Rattle.rds_live.proofs.Moves.{one-changed, still-left, same-read}
use Rattle.rds_live.proofs.moved.move_on.Goals as goal

pub move_item-requires : goal.move_item-requires
move_item-requires c =
    let loop = c.loop-i in
    let none = c.index-items-i.result in
    subst (λ (item : Item). place_of item + c.args.by < 2 ^ 64) (sym (same-read c.args.items.now loop.items loop.i none loop.invariant.left))
    (c.requires loop.i none (omega (arith, c.loop-i-test.true, loop.invariant.same)))

pub loop-i-preserved : goal.loop-i-preserved
loop-i-preserved c =
    let loop = c.loop-i in
    let old = c.args.items.now in
    let none = c.index-items-i.result in
    let is = c.move_item.ensures ∙ ap (λ (item : Item). moved_item c.args.by item) (same-read old loop.items loop.i none loop.invariant.left) in
    record {
      moved = rw is (one-changed (moved_item c.args.by) old loop.items loop.i none (omega (arith, c.loop-i-test.true, loop.invariant.same)) (omega (arith, c.loop-i-test.true)) loop.invariant.moved);
      left = still-left old loop.items loop.i c.move_item.new.item loop.invariant.left;
      same = length-set loop.items loop.i c.move_item.new.item ∙ loop.invariant.same;
    }
