use Rattle.std.proofs.Common.{arith}
use Rattle.rds_stream.proofs.ValidPlaceLemmas.{none_ahead, join_none}
use Rattle.rds_stream.proofs.valid_places.ValidPlaces.next_valid.Goals as goal

pub loop-places-preserved : goal.loop-places-preserved
loop-places-preserved c =
    let b = c.args.recording.now in
    let from = c.args.self.next in
    let old = c.loop-places.places in
    let now = c.loop-places.invariant in
    let new = c.next-places in
    let none = none_ahead b old.next old.ahead old.word now.places c.loop-places-test.true in
    record {
      places = new.ensures.places;
      first = λ more. omega (arith, now.first, new.ensures.forward);
      from_on = omega (arith, now.from_on, now.places.order, new.ensures.forward);
      limit = new.ensures.forward.2;
      over = join_none b from old.ahead new.result.next (join_none b from old.next old.ahead now.over none) new.ensures.over;
      section = new.ensures.section;
    }
