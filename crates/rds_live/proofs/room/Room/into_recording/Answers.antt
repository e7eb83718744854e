use Rattle.rds_live.proofs.Names.{◌*◌, ◌^◌, ◌≤◌, length, ap, arith, refl, false≢true, RoomOf}
use Rattle.rds_live.proofs.GapParts.{found-of-part}
use Rattle.rds_live.proofs.room.Room.into_recording.Goals as goal

pub unreachable-requires : goal.unreachable-requires
unreachable-requires c =
    let s = c.self.inside in
    let held : c.args.bits ≤ 8 * length s.bytes.items = omega (arith, c.requires.held, ap (λ (r : RoomOf). length r.bytes) c.self.view_is) in
    absurd (false≢true (c.in-Err.ensures.taken.1 (
      omega (arith, held, c.self.invariant.0),
      omega (arith, held, s.bytes.ok.0),
      found-of-part (2 ^ 36) c.args.before c.args.bits c.args.bits c.args.gaps.now c.fill_gaps.new.found.items c.requires.are c.fill_gaps.ensures.gaps refl,
    )))
