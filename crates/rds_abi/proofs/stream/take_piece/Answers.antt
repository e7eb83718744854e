use Rattle.rds_abi.proofs.Shared.{common_steps, ◌≡◌, ◌/◌, ◌<◌, ◌≤◌, ◌∙◌, ℕ, List, ap, arith, length, map, max, subst, take, length-take, take-take, RunsGiveFewItems, Item, LiveOf, completed, live_next, IsFilled, item_in_c}
use Rattle.rds_abi.proofs.{Fitting.one-byte, stream.take_piece.Goals.After-len-count}
use Rattle.rds_abi.proofs.stream.take_piece.Goals as goal

-- the items of a piece that have no room are those of one byte
one-taken : RunsGiveFewItems → (live : LiveOf) (bytes : List ℕ) (room most piece n : ℕ) (items : List Item)
    → items ≡ completed live (take n (take piece bytes)) → n ≤ piece → piece ≤ most → most ≡ max (room / 16) 1 → room < length items
    → (n ≡ 1) × (length items ≡ length (completed live (take 1 bytes)))
one-taken law live bytes room most piece n items is within few most_is small =
    grind (arith, common_steps, take-take n piece bytes, one-byte law live bytes room most n (length items))

-- the decoder took some of the piece
module _ (c : After-len-count) where
  within : c.in-Ok.taken ≤ c.min.result
  within = omega (arith, c.in-Ok.ensures.count, length-take c.min.result c.args.bytes.now)

  found : c.take.new.items.items ≡ completed c.args.live.now (take c.in-Ok.taken c.args.bytes.now)
  found = c.in-Ok.ensures.completed ∙ ap (λ (xs : List ℕ). completed c.args.live.now xs) (take-take c.in-Ok.taken c.min.result c.args.bytes.now within)

  count : c.len-count.result ≡ length c.take.new.items.items
  count = omega (arith, c.len-count.ensures, c.take.new.items.ok.0)

  one : length c.args.room.now < c.len-count.result → (c.in-Ok.taken ≡ 1) × (c.len-count.result ≡ length (completed c.args.live.now (take 1 c.args.bytes.now)))
  one small =
      let first = one-taken c.runs_give_few_items.ensures c.args.live.now c.args.bytes.now (length c.args.room.now) c.max-most.result c.min.result c.in-Ok.taken c.take.new.items.items
      c.in-Ok.ensures.completed within (omega (arith, c.min.ensures)) c.max-most.ensures (omega (arith, small, count)) in
      (first.0, count ∙ first.1)

pub returns-then-room-count-clause-some : goal.returns-then-room-count-clause-some
returns-then-room-count-clause-some c =
    let first = one (goal.at.returns-then-room-count-clause-some c).After-len-count c.if-room-count.true in
    omega (arith, first.0, c.in-Ok.ensures.count, length-take c.min.result c.args.bytes.now)

pub returns-then-room-count-clause-small : goal.returns-then-room-count-clause-small
returns-then-room-count-clause-small c =
    let small = c.if-room-count.true in
    omega (arith, small, (one (goal.at.returns-then-room-count-clause-small c).After-len-count small).1)

pub returns-then-room-count-clause-needed : goal.returns-then-room-count-clause-needed
returns-then-room-count-clause-needed c =
    (one (goal.at.returns-then-room-count-clause-needed c).After-len-count c.if-room-count.true).1

pub returns-clause-after : goal.returns-clause-after
returns-clause-after c =
    c.in-Ok.ensures.next ∙ ap (λ (xs : List ℕ). live_next c.args.live.now xs) (take-take c.in-Ok.taken c.min.result c.args.bytes.now (within (goal.at.returns-clause-after c).After-len-count))

pub returns-clause-filled : goal.returns-clause-filled
returns-clause-filled c =
    subst (λ (items : List Item). IsFilled (map item_in_c items) c.args.room.now c.fill_room.new.room) (c.deref.ensures.value ∙ found (goal.at.returns-clause-filled c).After-len-count) c.fill_room.ensures

pub returns-clause-count : goal.returns-clause-count
returns-clause-count c =
    let at = (goal.at.returns-clause-count c).After-len-count in
    count at ∙ ap (λ (items : List Item). length items) (found at)
