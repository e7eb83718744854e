use Rattle.rds_live.proofs.Names.{◌*◌, ◌++◌, ◌∙◌, List, ap, ap₂, length, subst, sym, ℕ, flat_map, Item, ListerOf, IsWithin, completed, guessed, live_next, LiveOf}
use Rattle.rds_live.proofs.stream_lister.StreamLister.take_over.Goals as goal

pub take_over-requires-clause-guess : goal.take_over-requires-clause-guess
take_over-requires-clause-guess g c =
    ap (λ (l : ListerOf). l.live) (c.guess.view_is ∙ c.requires.guess) ∙ ap (λ (l : ListerOf). live_next (guessed l.live l.live.state) c.args.bytes.now) (sym c.self.view_is)

pub returns : goal.returns
returns g c =
    let row : Item → List ℕ = g.T.ItemRows.row_of in
    let bytes = c.args.bytes.now in
    let before = g.T.ItemRows.rows c.self.inside.rows in
    record {
      next = ap₂ (λ (l : LiveOf) (xs : List ℕ). record { live = l; rows = xs })
          (c.take_over.ensures.next ∙ ap (λ (l : ListerOf). live_next l.live bytes) c.self.view_is)
          (c.in_ok-append.ensures ∙ ap (λ (xs : List ℕ). before ++ xs) (ap (λ (l : ListerOf). l.rows) (c.guess.view_is ∙ c.requires.guess))
          ∙ ap (λ (l : ListerOf). l.rows ++ flat_map row (completed c.args.self.live bytes)) c.self.view_is);
      small = subst (λ (l : ListerOf). IsWithin (8 * length bytes) l.live.totals c.take_over.new.self.totals) c.self.view_is c.take_over.ensures.small;
    }
