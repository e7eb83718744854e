use Rattle.rds_live.proofs.Names.{◌≡◌, ◌∙◌, List, ap, ap₂, sym, ℕ, Item, State, ListerOf, lister_next, lister_of, guessed, LiveOf}
use Rattle.rds_live.proofs.Sewing.{both-within}
use Rattle.std.proofs.lemmas.Result.{IfOk-weaker}
use Rattle.rds_live.proofs.stream_lister.StreamLister.sew.Goals as goal

pub take_over-requires-clause-guess : goal.take_over-requires-clause-guess
take_over-requires-clause-guess g c κs within =
    let row : Item → List ℕ = g.T.ItemRows.row_of in
    let met : c.args.mark ≡ c.in_ok-lister.lister.live.state = c.is_in.ensures c.if-is_in.true ∙ ap (λ (l : ListerOf). l.live.state) c.lister.view_is in
    c.requires.guess
    ∙ ap₂ (λ (l : LiveOf) (s : State). lister_next row (lister_of (guessed l s)) c.args.rest.now)
    (sym (ap (λ (l : ListerOf). l.live) c.in_ok-lister.ensures.next)) met

pub returns-then-is_in-clause-next : goal.returns-then-is_in-clause-next
returns-then-is_in-clause-next g c =
    IfOk-weaker c.take_over.result _ _ (λ after is. is.next ∙ ap (λ (l : ListerOf). lister_next g.T.ItemRows.row_of l c.args.rest.now) c.in_ok-lister.ensures.next) c.take_over.ensures

pub returns-then-is_in-clause-small : goal.returns-then-is_in-clause-small
returns-then-is_in-clause-small g c =
    IfOk-weaker c.take_over.result _ _ (λ after is. both-within _ _ _ _ _ c.in_ok-lister.ensures.small is.small) c.take_over.ensures

pub returns-clause-next : goal.returns-clause-next
returns-clause-next g c =
    IfOk-weaker c.list_alone-else-is_in.result _ _ (λ after is. is.next ∙ ap (λ (l : ListerOf). lister_next g.T.ItemRows.row_of l c.args.rest.now) c.in_ok-lister.ensures.next)
    c.list_alone-else-is_in.ensures

pub returns-clause-small : goal.returns-clause-small
returns-clause-small g c =
    IfOk-weaker c.list_alone-else-is_in.result _ _ (λ after is. both-within _ _ _ _ _ c.in_ok-lister.ensures.small is.small) c.list_alone-else-is_in.ensures
