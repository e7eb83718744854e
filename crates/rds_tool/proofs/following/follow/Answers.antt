use Rattle.rds_tool.proofs.Names.{◌++◌, ◌∙◌, ℕ, Err, List, ap, sym, rows_so_far}
use Rattle.rds_tool.proofs.{Followed.breaks_last, Followed.breaks_rest, Followed.few_bits, Followed.follows_err, Followed.follows_rest, Followed.heard_ok, Followed.known_ok, Followed.last_is, Followed.place_is, Followed.place_of_all, Followed.rest_fits, Passing.passed}
use Rattle.rds_tool.proofs.following.follow.Goals as goal

pub bits_left-left-requires : goal.bits_left-left-requires
bits_left-left-requires g c =
    let (heard, h, is) = c.in_ok-live.ensures.heard in
    place_of_all c.args.bits c.place.result heard (c.place.ensures.value ∙ place_is _ _ heard is) h.counts

pub rows_of_rest-requires-clause-few : goal.rows_of_rest-requires-clause-few
rows_of_rest-requires-clause-few g c = few_bits _ _ c.in_ok-count.ensures.within.1 c.in_ok-count.ensures.few

pub returns-in_err-live-clause-all : goal.returns-in_err-live-clause-all
returns-in_err-live-clause-all g c = follows_err _ _ (passed _ _ c.from_residual.ensures) c.in_err-live.ensures.broke

pub returns-in_err-count-clause-all : goal.returns-in_err-count-clause-all
returns-in_err-count-clause-all g c =
    let (heard, h, is) = c.in_ok-live.ensures.heard in
    let read = c.in_err-count.ensures in
    follows_err _ _ (passed _ _ c.from_residual-in_err-count.ensures)
    (breaks_last _ _ _ _ _ h _ is _ c.place.result c.bits_left-left.result _ read.kinds c.place.ensures.value c.bits_left-left.ensures c.in_ok-live.ensures.near read.kept read.none_given
    (λ p. read.failed (ap (λ x. Err x) p)) (λ p. read.past (ap (λ x. Err x) p)))

pub returns-in_err-rows-clause-all : goal.returns-in_err-rows-clause-all
returns-in_err-rows-clause-all g c =
    let (heard, h, is) = c.in_ok-live.ensures.heard in
    let read = c.in_ok-count.ensures in
    follows_err _ _ (passed _ _ c.from_residual-in_err-rows.ensures)
    (breaks_rest _ _ _ _ _ h _ is c.bits_left-left.result
    (last_is _ _ _ _ _ _ _ c.place.result c.bits_left-left.result heard c.in_ok-count.count c.read_last.new.last is h.counts c.place.ensures.value c.bits_left-left.ensures
    read.within read.few read.given read.taken read.count read.still c.in_ok-live.ensures.near)
    _ c.in_err-rows.ensures.kinds (λ p. c.in_err-rows.ensures.bad_gaps (ap (λ x. Err x) p)))

pub returns-clause-all : goal.returns-clause-all
returns-clause-all g c =
    let (heard, h, is) = c.in_ok-live.ensures.heard in
    let read = c.in_ok-count.ensures in
    let wrote = c.write_flushed.ensures in
    let short =
    rest_fits c.args.bits c.place.result c.in_ok-live.live.place c.bits_left-left.result c.place.ensures.value c.place.ensures.limit c.bits_left-left.ensures c.in_ok-live.ensures.claims
    (place_of_all c.args.bits c.in_ok-live.live.place heard (place_is _ _ heard is) h.counts) in
    follows_rest _ _ _ _ _ h _ is c.bits_left-left.result
    (last_is _ _ _ _ _ _ _ c.place.result c.bits_left-left.result heard c.in_ok-count.count c.read_last.new.last is h.counts c.place.ensures.value c.bits_left-left.ensures
    read.within read.few read.given read.taken read.count read.still c.in_ok-live.ensures.near)
    _ c.write_flushed.result _
    (λ before k. c.in_ok-rows.ensures.rows before k ∙ ap (λ (ys : List ℕ). rows_so_far c.in_ok-live.live.terms before ++ ys) (sym c.as_slice.ensures.value))
    short c.in_ok-rows.ensures.gaps wrote.kinds wrote.ok wrote.flushed wrote.write wrote.prefix

pub returns-clause-ok : goal.returns-clause-ok
returns-clause-ok g c = known_ok _ _ _ _ _ _ _ _ _ c.write_flushed.result (returns-clause-all g c)

pub returns-clause-heard : goal.returns-clause-heard
returns-clause-heard g c = heard_ok _ _ _ _ _ _ _ _ _ c.write_flushed.result (returns-clause-all g c)
