use Rattle.rds_tool.proofs.Names.{common_steps, arith, ◌≡◌, ◌≤◌, ◌++◌, ◌∙◌, ℕ, Err, [], ap, drop, length, length-append, refl, subst, sym, take, true, IsAtEnd, LiveOf, IsNear, most_read}
use Rattle.rds_tool.proofs.Followed.{asked_more, breaks_at_once, breaks_chunk, breaks_read, counts_more, front_is, heard_end, heard_more, heard_next, heard_none, is_read, lent_whole, listing_begins, long_taken, near_by, place_is, place_of_all, rows_by, smaller, some_taken}
use Rattle.rds_tool.proofs.Passing.{passes}
use Rattle.rds_tool.proofs.following.follow_bytes.Goals as goal

pub returns-in_err-begun-clause-broke : goal.returns-in_err-begun-clause-broke
returns-in_err-begun-clause-broke g c =
    passes _ _ _ c.from_residual.ensures
    (breaks_at_once _ (omega arith) (heard_none _ _ _ _ _ refl (grind (arith, common_steps))) c.in_err-begun.ensures.kinds
    (λ p. c.in_err-begun.ensures.too_long (ap (λ x. Err x) p)) (λ p. c.in_err-begun.ensures.bad_gaps (ap (λ x. Err x) p)))

pub reads-init : goal.reads-init
reads-init g c = record {
  heard = ([], heard_none _ _ _ _ _ refl (grind (arith, common_steps)), c.in_ok-begun.ensures.live);
  room = c.in_ok-begun.ensures.room;
}

pub room_before_end-room-requires : goal.room_before_end-room-requires
room_before_end-room-requires g c =
    let (heard, h, is) = c.reads.invariant.heard in
    place_of_all c.args.bits c.place.result heard (c.place.ensures.value ∙ place_is _ _ heard is) h.counts

pub returns-in_err-count-clause-broke : goal.returns-in_err-count-clause-broke
returns-in_err-count-clause-broke g c =
    let (heard, h, is) = c.reads.invariant.heard in
    let read = c.in_err-count.ensures in
    passes _ _ _ c.from_residual-in_err-count.ensures (breaks_read h _ _ (omega arith) read.kinds read.kept read.none_given read.failed)

pub reads-smaller : goal.reads-smaller
reads-smaller g c =
    let (heard, h, is) = c.reads.invariant.heard in
    let read = c.in_ok-count.ensures in
    let long = c.read_once.auto.buf ∙ c.as_mut_slice.ensures.len in
    let bytes = take c.in_ok-count.count c.deref.result.now in
    let bytes_are = front_is c.in_ok-count.count c.reads.buf.len c.deref.result.now c.read_once.new.buf (drop (length c.read_once.new.buf) c.reads.buf.items) long c.deref.ensures.value in
    smaller _ _ _ heard bytes is (heard_next _ _ _ heard bytes is c.in_ok-lister.ensures.heard c.in_ok-lister.ensures.terms) c.in_ok-lister.ensures.fits
    (some_taken _ _ _ bytes_are c.if-count-eq0.false read.within.0)

pub reads-preserved : goal.reads-preserved
reads-preserved g c =
    let (heard, h, is) = c.reads.invariant.heard in
    let read = c.in_ok-count.ensures in
    let long = c.read_once.auto.buf ∙ c.as_mut_slice.ensures.len in
    let bytes = take c.in_ok-count.count c.deref.result.now in
    let bytes_are = front_is c.in_ok-count.count c.reads.buf.len c.deref.result.now c.read_once.new.buf (drop (length c.read_once.new.buf) c.reads.buf.items) long c.deref.ensures.value in
    let count : length bytes ≡ c.in_ok-count.count = long_taken _ bytes _ bytes_are read.within.0 in
    let counts = counts_more c.args.bits c.place.result c.room_before_end-room.result heard bytes c.room_before_end-room.ensures.within (c.place.ensures.value ∙ place_is _ _ heard is) (omega (arith, count, read.within.1)) in
    let most : c.in_ok-count.count ≤ most_read c.args.workers = omega (arith, read.within.0, long, c.reads.buf.ok.0, c.reads.invariant.room) in
    let r = is_read _ _ _ _ heard c.in_ok-count.count bytes _ bytes_are read.within.0 read.given read.taken read.count most (asked_more c.args.bits heard bytes counts) in
    let (rows, more, did) = rows_by _ _ heard bytes is c.in_ok-lister.ensures.rows in
    record {
      heard = (
        heard ++ bytes,
        heard_more h r _ rows more did counts c.in_ok-lister.ensures.flushed c.in_ok-lister.ensures.count,
        heard_next _ _ _ heard bytes is c.in_ok-lister.ensures.heard c.in_ok-lister.ensures.terms,
      );
      room = ap (λ xs. length xs) (lent_whole c.reads.buf.len c.read_once.new.buf (drop (length c.read_once.new.buf) c.reads.buf.items) long) ∙ long ∙ c.reads.buf.ok.0 ∙ c.reads.invariant.room;
    }

pub returns-in_err-lister-clause-broke : goal.returns-in_err-lister-clause-broke
returns-in_err-lister-clause-broke g c =
    let (heard, h, is) = c.reads.invariant.heard in
    let read = c.in_ok-count.ensures in
    let long = c.read_once.auto.buf ∙ c.as_mut_slice.ensures.len in
    let bytes = take c.in_ok-count.count c.deref.result.now in
    let bytes_are = front_is c.in_ok-count.count c.reads.buf.len c.deref.result.now c.read_once.new.buf (drop (length c.read_once.new.buf) c.reads.buf.items) long c.deref.ensures.value in
    let count : length bytes ≡ c.in_ok-count.count = long_taken _ bytes _ bytes_are read.within.0 in
    let counts = counts_more c.args.bits c.place.result c.room_before_end-room.result heard bytes c.room_before_end-room.ensures.within (c.place.ensures.value ∙ place_is _ _ heard is) (omega (arith, count, read.within.1)) in
    let most : c.in_ok-count.count ≤ most_read c.args.workers = omega (arith, read.within.0, long, c.reads.buf.ok.0, c.reads.invariant.room) in
    let r = is_read _ _ _ _ heard c.in_ok-count.count bytes _ bytes_are read.within.0 read.given read.taken read.count most (asked_more c.args.bits heard bytes counts) in
    let chunk = c.in_err-lister.ensures in
    passes _ _ _ c.from_residual-in_err-lister.ensures
    (breaks_chunk h r _ _ _ chunk.kinds chunk.untouched
    (λ p. let much = chunk.too_long (ap (λ x. Err x) p) in omega (arith, much, place_is _ _ heard is, length-append heard bytes))
    (listing_begins _ _ c.runs_are_reports.ensures c.reach.ensures.range.loss.0 (heard ++ bytes) counts)
    (λ p. rows_by _ _ heard bytes is (chunk.prefix (ap (λ x. Err x) p)))
    (λ p. chunk.write.0 (ap (λ x. Err x) p)))

pub returns-clause-heard : goal.returns-clause-heard
returns-clause-heard g c =
    let (heard, h, is) = c.reads.invariant.heard in
    let read = c.in_ok-count.ensures in (
      heard,
      heard_end h _ _ _ c.if-count-eq0.true read.given read.taken read.count,
      c.into_decoder.ensures ∙ is,
    )

pub returns-clause-near : goal.returns-clause-near
returns-clause-near g c =
    let read = c.in_ok-count.ensures in
    subst (λ (p : ℕ). IsNear c.args.bits 8 p (IsAtEnd (g.S.Source.remaining c.read_once.new.reader) × (g.S.Source.has_ended c.read_once.new.reader ≡ true))) (c.place.ensures.value ∙ ap (λ (l : LiveOf). l.place) (sym c.into_decoder.ensures))
    (near_by c.args.bits 8 c.place.result c.room_before_end-room.result c.room_before_end-room.ensures.none (read.end c.if-count-eq0.true) (read.answer c.if-count-eq0.true))
