use Rattle.rds_live.proofs.Names.{◌≡◌, ◌+◌, ◌*◌, ◌∙◌, List, ap, arith, length, sym, ℕ, length-append, State, LiveOf, guessed, live_next}
use Rattle.rds_live.proofs.Sewing.{both-within, from-none, within-all}
use Rattle.rds_live.proofs.counted_pieces.+counted_pieces.Goals as goal

pub count_pieces-sew-requires-clause-guess : goal.count_pieces-sew-requires-clause-guess
count_pieces-sew-requires-clause-guess g t c =
    let front = c.split_at.result.0.now in
    let seam = c.split_at-2.result.0.now in
    let rest = c.split_at-2.result.1.now in
    c.count_both.ensures.rest
    ∙ ap (λ (l : LiveOf). live_next l rest) (c.in-Ok.ensures
    ∙ ap (λ (s : State). guessed (live_next (live_next c.args.live.now front) seam) s) (sym c.state-mark.ensures.value)
    ∙ ap (λ (l : LiveOf). guessed (live_next l seam) c.state-mark.result) (sym c.count_both.ensures.front))

pub count_pieces-sew-requires-clause-few : goal.count_pieces-sew-requires-clause-few
count_pieces-sew-requires-clause-few g t c = from-none _ _ _ (ap (λ (l : LiveOf). l.totals) c.in-Ok.ensures) c.count_both.ensures.small_rest

pub count_pieces-returns-clause-next : goal.count_pieces-returns-clause-next
count_pieces-returns-clause-next g t c =
    let front = c.split_at.result.0.now in
    let back = c.split_at.result.1.now in
    let seam = c.split_at-2.result.0.now in
    let rest = c.split_at-2.result.1.now in
    let parted = c.split_at.ensures.by_index.0 in
    let again = c.split_at-2.ensures.by_index.0 in
    let live = c.args.live.now in
    let known = c.is_known.ensures in
    let join = c.pieces_join.ensures in
    c.sew.ensures.next
    ∙ (join c.count_both.new.live seam rest c.is_known-2.ensures.range c.is_known-2.ensures.live).0
    ∙ ap (λ (xs : List ℕ). live_next c.count_both.new.live xs) (sym again)
    ∙ ap (λ (l : LiveOf). live_next l back) c.count_both.ensures.front
    ∙ (join live front back known.range known.live).0
    ∙ ap (λ (xs : List ℕ). live_next live xs) (sym parted)

pub count_pieces-returns-clause-small : goal.count_pieces-returns-clause-small
count_pieces-returns-clause-small g t c =
    let long : 8 * length c.split_at.result.0.now + (8 * length c.split_at-2.result.0.now + 8 * length c.split_at-2.result.1.now) ≡ 8 * length c.args.bytes.now =
    omega (arith, ap length c.split_at.ensures.by_index.0, length-append c.split_at.result.0.now c.split_at.result.1.now, ap length c.split_at-2.ensures.by_index.0, length-append c.split_at-2.result.0.now c.split_at-2.result.1.now) in
    within-all _ _ _ _ long (both-within _ _ _ _ _ c.count_both.ensures.small_front c.sew.ensures.small)
