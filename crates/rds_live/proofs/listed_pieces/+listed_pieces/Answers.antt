use Rattle.rds_live.proofs.Names.{◌≡◌, ◌+◌, ◌*◌, ◌∙◌, List, ap, arith, length, sym, ℕ, length-append, Item, State, ListerOf, lister_next, lister_of, guessed, live_next, LiveOf}
use Rattle.rds_live.proofs.{Listers.lists-join, Listers.on-ok-both, Sewing.both-within, Sewing.from-none, Sewing.within-all}
use Rattle.rds_live.proofs.listed_pieces.+listed_pieces.Goals as goal

pub list_pieces-sew-requires-clause-guess : goal.list_pieces-sew-requires-clause-guess
list_pieces-sew-requires-clause-guess g t c κs within =
    let row : Item → List ℕ = g.T.ItemRows.row_of in
    let front = c.split_at.result.0.now in
    let seam = c.split_at-2.result.0.now in
    let rest = c.split_at-2.result.1.now in
    let both = c.in_ok-lister.ensures in
    both.rest.next
    ∙ ap (λ (l : ListerOf). lister_next row l rest) (c.in-Ok.ensures
    ∙ ap (λ (s : State). lister_of (guessed (live_next (live_next c.args.lister.live front) seam) s)) (sym c.state-mark.ensures)
    ∙ ap (λ (l : LiveOf). lister_of (guessed (live_next l seam) c.state-mark.result)) (sym (ap (λ (l : ListerOf). l.live) both.front.next)))

pub list_pieces-sew-requires-clause-few : goal.list_pieces-sew-requires-clause-few
list_pieces-sew-requires-clause-few g t c κs within = from-none _ _ _ (ap (λ (l : ListerOf). l.live.totals) c.in-Ok.ensures) c.in_ok-lister.ensures.rest.small

pub list_pieces-returns : goal.list_pieces-returns
list_pieces-returns g t c =
    let row : Item → List ℕ = g.T.ItemRows.row_of in
    let front = c.split_at.result.0.now in
    let back = c.split_at.result.1.now in
    let seam = c.split_at-2.result.0.now in
    let rest = c.split_at-2.result.1.now in
    let parted = c.split_at.ensures.by_index.0 in
    let again = c.split_at-2.ensures.by_index.0 in
    let old = c.args.lister in
    let mid = c.in_ok-lister.lister in
    let both = c.in_ok-lister.ensures in
    let join = c.pieces_join.ensures in
    let long : 8 * length front + (8 * length seam + 8 * length rest) ≡ 8 * length c.args.bytes.now =
    omega (arith, ap length parted, length-append front back, ap length again, length-append seam rest) in
    on-ok-both c.sew.result (λ after next small. record {
      next = next ∙ lists-join join row mid seam rest c.is_known-2.ensures.range c.is_known-2.ensures.live
          ∙ ap (λ (xs : List ℕ). lister_next row mid xs) (sym again)
          ∙ ap (λ (l : ListerOf). lister_next row l back) both.front.next
          ∙ lists-join join row old front back c.is_known.ensures.range c.is_known.ensures.live
          ∙ ap (λ (xs : List ℕ). lister_next row old xs) (sym parted);
      small = within-all _ _ _ _ long (both-within _ _ _ _ _ both.front.small small);
    }) c.sew.ensures.next c.sew.ensures.small
