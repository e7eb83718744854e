use Rattle.rds_abi.proofs.Shared.{◌≡◌, ap, inl, length, rules, subst, sym, ◌∙◌, ℕ, List, err_from_is_err_and, group_item, totals_of, HasHeard, LiveOf, report_of, AreClosed, AreTooMany, stream_of, terms_of, totals_in_c, Refusal}
use Rattle.rds_abi.proofs.{Streams.closed, Streams.too_many, stream.finish.Goals.After-finish-end}
use Rattle.rds_abi.proofs.stream.finish.Goals as goal

-- the decoder is that of the stream
decoder : (c : After-finish-end) → c.in_ok-live.live ≡ stream_of (terms_of c.args.rules c.args.gaps.now) c.args.stream.now
decoder c = rw c.in_ok-told.ensures.terms at c.in_ok-live.ensures.live

pub returns-in_err-write_end-clause-refused : goal.returns-in_err-write_end-clause-refused
returns-in_err-write_end-clause-refused c =
    let p = err_from_is_err_and c.from_residual-in_err-write_end.result c.from_residual-in_err-write_end.ensures.1 in
    let wanted = AreClosed (terms_of c.args.rules c.args.gaps.now) c.args.stream.now in
    let is = decoder (goal.at.returns-in_err-write_end-clause-refused c).After-finish-end in
    let group = c.finish-end.result.group in
    let refused = c.in_err-write_end.ensures.refused in
    let found = closed (terms_of c.args.rules c.args.gaps.now) c.args.stream.now c.in_ok-live.live is group c.finish-end.ensures.group in
    rw (p.1, p.2) (inl (
      record { given = c.in_ok-told.ensures.given; left = rw c.in_ok-told.ensures.terms at c.in_ok-live.ensures.left },
      subst (λ (r : Refusal). AreTooMany wanted (length c.args.room.now) r c.write_end.new.count) (sym refused.0)
          (too_many wanted (group_item group) found _ c.in_err-write_end.ensures.count _ refused.1),
    ))

pub returns-clause-items : goal.returns-clause-items
returns-clause-items c =
    let group = c.finish-end.result.group in (
      group_item group,
      closed (terms_of c.args.rules c.args.gaps.now) c.args.stream.now c.in_ok-live.live (decoder (goal.at.returns-clause-items c).After-finish-end) group c.finish-end.ensures.group,
      c.in_ok-write_end.ensures.filled,
      c.in_ok-write_end.ensures.count,
    )

pub returns-clause-totals : goal.returns-clause-totals
returns-clause-totals c bytes heard =
    c.totals_in_c.ensures
    ∙ ap totals_in_c (subst (λ (l : LiveOf). (bytes : List ℕ) → HasHeard l bytes → c.finish-end.result.totals ≡ totals_of (report_of l.terms bytes)) (decoder (goal.at.returns-clause-totals c).After-finish-end)
    c.finish-end.ensures.totals bytes heard)
