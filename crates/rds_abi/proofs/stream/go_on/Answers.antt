use Rattle.rds_abi.proofs.Shared.{◌≡◌, ◌<◌, arith, inl, inr, length, refl, subst, take, length-map, LiveOf, completed, stream_in_c, stream_of, item_in_c}
use Rattle.rds_abi.proofs.stream.go_on.Goals as goal

pub returns-in-Ok-clause-after : goal.returns-in-Ok-clause-after
returns-in-Ok-clause-after c = rw c.in_ok-live.ensures.live at c.in-Ok.ensures.after

pub returns-in-Ok-clause-filled : goal.returns-in-Ok-clause-filled
returns-in-Ok-clause-filled c = rw c.in_ok-live.ensures.live at c.in-Ok.ensures.filled

pub returns-in-Ok-clause-most : goal.returns-in-Ok-clause-most
returns-in-Ok-clause-most c = rw c.in_ok-live.ensures.live at c.in-Ok.ensures.most

pub returns-in-Ok-clause-next : goal.returns-in-Ok-clause-next
returns-in-Ok-clause-next c = record {
  live = rw c.in_ok-live.ensures.live at c.in-Ok.ensures.live;
  laid = inr (subst (λ (l : LiveOf). c.take_fitting.new.stream ≡ stream_in_c (stream_of l.terms c.take_fitting.new.stream)) c.in_ok-live.ensures.live c.in-Ok.ensures.laid);
}

pub returns-clause-refused : goal.returns-clause-refused
returns-clause-refused c =
    let left = c.in_ok-live.ensures.left in
    let found = completed (stream_of c.args.told.now c.args.stream.now) (take 1 c.args.bytes.now) in
    let small : length c.args.room.now < length found = rw c.in_ok-live.ensures.live at c.in-Err.ensures.small in
    let told : c.in-Err.needed ≡ length found = rw c.in_ok-live.ensures.live at c.in-Err.ensures.needed in
    inl (left, c.in_ok-refuse_long.ensures.fits, (refl, omega (arith, small, length-map found item_in_c), omega (arith, told, length-map found item_in_c)))
