use Rattle.rds_tool.proofs.Names.{common_steps, arith, ◌-◌, ◌≡◌, ◌++◌, ◌∙◌, ℕ, Err, List, ap, drop, length, length-append, refl, subst, sym, take, true, ◌≤◌, IsAtEnd, IsNear, SoftHeard, SoftTerms, most_symbols, soft_rows_so_far}
use Rattle.rds_tool.proofs.Followed.{breaks_at_once, breaks_chunk, breaks_read, front_is, heard_as, heard_end, heard_more, heard_none, is_read, lent_whole, long_taken, near_by, some_taken}
use Rattle.rds_tool.proofs.{Passing.passes, SoftFollowed.asked-count, SoftFollowed.asked-more, SoftFollowed.counts-more, SoftFollowed.text-begins}
use Rattle.rds_tool.proofs.soft_following.follow_symbols.Goals as goal

-- the rows of these terms
rows-by : {P : List ℕ → Type 0} (its_terms terms : SoftTerms) (heard more : List ℕ) → its_terms ≡ terms
    → (rows : List ℕ) × (soft_rows_so_far its_terms (heard ++ more) ≡ soft_rows_so_far its_terms heard ++ rows) × P rows
    → (rows : List ℕ) × (soft_rows_so_far terms (heard ++ more) ≡ soft_rows_so_far terms heard ++ rows) × P rows
rows-by {P} its_terms terms heard more same wrote =
    subst (λ (t : SoftTerms). (rows : List ℕ) × (soft_rows_so_far t (heard ++ more) ≡ soft_rows_so_far t heard ++ rows) × P rows) same wrote

pub returns-in_err-begun-clause-broke : goal.returns-in_err-begun-clause-broke
returns-in_err-begun-clause-broke g c =
    passes _ _ _ c.from_residual.ensures
    (breaks_at_once _ (omega arith) (heard_none _ _ _ _ _ refl (grind (arith, common_steps))) c.in_err-begun.ensures.kinds
    (λ p. c.in_err-begun.ensures.too_long (ap (λ x. Err x) p)) (λ p. c.in_err-begun.ensures.bad_gaps (ap (λ x. Err x) p)))

pub reads-init : goal.reads-init
reads-init g c =
    let begun = c.in_ok-begun.ensures.stream in
    record {
      heard = (heard_as _ (ap (λ (s : SoftHeard). s.symbols) (sym begun)) (heard_none _ _ _ _ _ refl (grind (arith, common_steps))), ap (λ (s : SoftHeard). s.terms) begun);
      room = c.in_ok-begun.ensures.room;
    }

pub symbols_left-room-requires-clause-asked : goal.symbols_left-room-requires-clause-asked
symbols_left-room-requires-clause-asked g c = asked-count c.args.bits c.reads.stream.symbols c.count.result c.reads.invariant.heard.0.counts c.count.ensures.value

pub returns-in_err-count-clause-broke : goal.returns-in_err-count-clause-broke
returns-in_err-count-clause-broke g c =
    let read = c.in_err-count.ensures in
    passes _ _ _ c.from_residual-in_err-count.ensures (breaks_read c.reads.invariant.heard.0 _ _ (omega arith) read.kinds read.kept read.none_given read.failed)

pub reads-smaller : goal.reads-smaller
reads-smaller g c =
    let (h, same) = c.reads.invariant.heard in
    let read = c.in_ok-count.ensures in
    let heard = c.reads.stream.symbols in
    let long = c.read_once.auto.buf ∙ c.as_mut_slice.ensures.len in
    let more = take c.in_ok-count.count c.deref.result.now in
    let more_is = front_is c.in_ok-count.count c.reads.buf.len c.deref.result.now c.read_once.new.buf (drop (length c.read_once.new.buf) c.reads.buf.items) long c.deref.ensures.value in
    let some = some_taken _ _ _ more_is c.if-count-eq0.false read.within.0 in
    omega (arith, some, c.in_ok-follow_next.ensures.fits, ap (λ (xs : List ℕ). length xs) c.in_ok-follow_next.ensures.heard, length-append heard more)

pub reads-preserved : goal.reads-preserved
reads-preserved g c =
    let (h, same) = c.reads.invariant.heard in
    let read = c.in_ok-count.ensures in
    let heard = c.reads.stream.symbols in
    let long = c.read_once.auto.buf ∙ c.as_mut_slice.ensures.len in
    let more = take c.in_ok-count.count c.deref.result.now in
    let more_is = front_is c.in_ok-count.count c.reads.buf.len c.deref.result.now c.read_once.new.buf (drop (length c.read_once.new.buf) c.reads.buf.items) long c.deref.ensures.value in
    let count : length more ≡ c.in_ok-count.count = long_taken _ more _ more_is read.within.0 in
    let counts = counts-more c.args.bits c.count.result c.symbols_left-room.result heard more c.symbols_left-room.ensures.within c.count.ensures.value (omega (arith, count, read.within.1)) in
    let most : c.in_ok-count.count ≤ most_symbols = omega (arith, read.within.0, long, c.reads.buf.ok.0, c.reads.invariant.room) in
    let r = is_read _ _ _ _ heard c.in_ok-count.count more _ more_is read.within.0 read.given read.taken read.count most (asked-more c.args.bits heard more counts) in
    let next = c.in_ok-follow_next.ensures in
    let (rows, grew, did) = rows-by _ _ heard more same next.rows in
    record {
      heard = (heard_as _ (sym next.heard) (heard_more h r _ rows grew did counts next.flushed next.count), c.follow_next.ensures.terms ∙ same);
      room = ap (λ xs. length xs) (lent_whole c.reads.buf.len c.read_once.new.buf (drop (length c.read_once.new.buf) c.reads.buf.items) long) ∙ long ∙ c.reads.buf.ok.0 ∙ c.reads.invariant.room;
    }

pub returns-in_err-follow_next-clause-broke : goal.returns-in_err-follow_next-clause-broke
returns-in_err-follow_next-clause-broke g c =
    let (h, same) = c.reads.invariant.heard in
    let read = c.in_ok-count.ensures in
    let heard = c.reads.stream.symbols in
    let long = c.read_once.auto.buf ∙ c.as_mut_slice.ensures.len in
    let more = take c.in_ok-count.count c.deref.result.now in
    let more_is = front_is c.in_ok-count.count c.reads.buf.len c.deref.result.now c.read_once.new.buf (drop (length c.read_once.new.buf) c.reads.buf.items) long c.deref.ensures.value in
    let count : length more ≡ c.in_ok-count.count = long_taken _ more _ more_is read.within.0 in
    let counts = counts-more c.args.bits c.count.result c.symbols_left-room.result heard more c.symbols_left-room.ensures.within c.count.ensures.value (omega (arith, count, read.within.1)) in
    let most : c.in_ok-count.count ≤ most_symbols = omega (arith, read.within.0, long, c.reads.buf.ok.0, c.reads.invariant.room) in
    let r = is_read _ _ _ _ heard c.in_ok-count.count more _ more_is read.within.0 read.given read.taken read.count most (asked-more c.args.bits heard more counts) in
    let next = c.in_err-follow_next.ensures in
    passes _ _ _ c.from_residual-in_err-follow_next.ensures
    (breaks_chunk h r _ _ _ next.kinds (λ other. next.untouched other)
    (λ p. let much = next.too_long (ap (λ x. Err x) p) in omega (arith, much, length-append heard more))
    (text-begins _ (heard ++ more) c.runs_are_reports.ensures c.reach.ensures.range.loss.0)
    (λ p. rows-by _ _ heard more same (next.prefix (ap (λ x. Err x) p)))
    (λ p. next.write.0 (ap (λ x. Err x) p)))

pub returns-clause-heard : goal.returns-clause-heard
returns-clause-heard g c =
    let read = c.in_ok-count.ensures in
    (heard_end c.reads.invariant.heard.0 _ _ _ c.if-count-eq0.true read.given read.taken read.count, c.reads.invariant.heard.1)

pub returns-clause-near : goal.returns-clause-near
returns-clause-near g c =
    let read = c.in_ok-count.ensures in
    subst (λ (n : ℕ). IsNear c.args.bits 1 (n - 1) (IsAtEnd (g.S.Source.remaining c.read_once.new.reader) × (g.S.Source.has_ended c.read_once.new.reader ≡ true))) c.count.ensures.value
    (near_by c.args.bits 1 (c.count.result - 1) c.symbols_left-room.result c.symbols_left-room.ensures.none (read.end c.if-count-eq0.true) (read.answer c.if-count-eq0.true))
