use Rattle.rds_uses.proofs.Names.{Item, List, Terms, ap, complete, report_of, subst, sym, totals_of, ℕ, ◌++◌, ◌∙◌, ◌≡◌}
use Rattle.rds_sync.specs.Advance.{group_item}
use Rattle.rds_uses.proofs.live.take_rest.Goals as goal

-- what decoders by these terms give for the rest of a stream, and at its end
joined : (before rest : List ℕ) (r d : Terms) (other last : List Item) → d ≡ r → complete r (before ++ rest) ≡ complete r before ++ other
    → complete d (before ++ rest) ++ last ≡ report_of d (before ++ rest) → complete r before ++ other ++ last ≡ report_of r (before ++ rest)
joined before rest r d other last is other_is last_is =
    ap (λ (items : List Item). items ++ last) (sym other_is)
    ∙ subst (λ (q : Terms). complete q (before ++ rest) ++ last ≡ report_of q (before ++ rest)) is last_is

pub returns-in-Ok : goal.returns-in-Ok
returns-in-Ok c before heard =
    let all = before ++ c.args.rest.now in
    let heard_all = c.in-Ok.ensures.heard before heard in (
      joined before c.args.rest.now c.args.live.terms c.take_all.new.self.terms c.in-Ok.items.items (group_item c.finish.result.group)
          c.in-Ok.ensures.terms (c.in-Ok.ensures.items before heard) (c.finish.ensures.group all heard_all),
      subst (λ (q : Terms). c.finish.result.totals ≡ totals_of (report_of q all)) c.in-Ok.ensures.terms (c.finish.ensures.totals all heard_all),
    )
