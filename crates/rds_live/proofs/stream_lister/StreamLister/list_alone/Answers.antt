use Rattle.rds_live.proofs.Names.{◌≡◌, ◌+◌, ◌-◌, ◌*◌, ◌++◌, ◌∙◌, List, ap, ap₂, arith, length, subst, sym, ℕ, flat_map, length-append, IsAtMost, Item, ListerOf, lister_next, LiveOf, eqb-true, nil_from_length}
use Rattle.rds_live.proofs.{Following.at-most-more, Listers.lists-join, Listers.lists-still, Sewing.both-within, Sewing.within-all}
use Rattle.rds_live.proofs.stream_lister.StreamLister.list_alone.Goals as goal

pub loop-rest-init : goal.loop-rest-init
loop-rest-init g c = record {
  next = ap (λ (l : ListerOf). lister_next g.T.ItemRows.row_of l c.args.bytes.now) c.self.view_is;
  place = ap (λ (l : ListerOf). l.live.place + 8 * length c.args.bytes.now) c.self.view_is;
  few = omega arith;
  small = record { within = λ n few. at-most-more n _ c.self.inside.live.totals (omega arith) (subst (λ (l : ListerOf). IsAtMost n l.live.totals) (sym c.self.view_is) few) };
  room = c.self.invariant;
}

pub loop-rest-preserved : goal.loop-rest-preserved
loop-rest-preserved g c =
    let row : Item → List ℕ = g.T.ItemRows.row_of in
    let loop = c.loop-rest in
    let inv = loop.invariant in
    let part = c.split_at.result.0.now in
    let others = c.split_at.result.1.now in
    let parted : loop.rest.now ≡ part ++ others = c.split_at.ensures.by_index.0 in
    let long = ap length parted ∙ length-append part others in
    let rows = g.T.ItemRows.rows loop.rows in
    let before : ListerOf = record { live = loop.live; rows = rows } in
    let gone : record { live = c.take_part.new.self; rows = g.T.ItemRows.rows c.push_items.new.self } ≡ lister_next row before part = ap₂ (λ (l : LiveOf) (xs : List ℕ). record { live = l; rows = xs }) c.take_part.ensures.next
    (c.in_ok-push_items.ensures ∙ ap (λ (items : List Item). rows ++ flat_map row items) (c.deref.ensures.value ∙ c.take_part.ensures.completed)) in
    record {
      next = ap (λ (l : ListerOf). lister_next row l others) gone ∙ lists-join c.pieces_join.ensures row before part others c.is_known.ensures.range c.is_known.ensures.live
          ∙ ap (λ (xs : List ℕ). lister_next row before xs) (sym parted) ∙ inv.next;
      place = omega (arith, ap (λ (l : LiveOf). l.place) c.take_part.ensures.next, long, inv.place);
      few = omega (arith, long, inv.few);
      small = within-all (8 * (length c.args.bytes.now - length loop.rest.now) + 8 * length part) (8 * (length c.args.bytes.now - length others)) c.args.self.live.totals c.take_part.new.self.totals
          (omega (arith, long, inv.few)) (both-within _ _ _ _ _ inv.small c.take_part.ensures.small);
      room = omega (arith, c.take_part.ensures.room, inv.room);
    }

pub returns : goal.returns
returns g c =
    let row : Item → List ℕ = g.T.ItemRows.row_of in
    let loop = c.loop-rest in
    let last : ListerOf = record { live = loop.live; rows = g.T.ItemRows.rows loop.rows } in
    let none = nil_from_length loop.rest.now (eqb-true (length loop.rest.now) 0 (sym c.is_empty.ensures ∙ c.loop-rest-test.false)) in
    record {
      next = sym (lists-still row last c.is_still.ensures.known c.is_still.ensures.none) ∙ ap (λ (xs : List ℕ). lister_next row last xs) (sym none) ∙ loop.invariant.next;
      small = within-all _ _ c.args.self.live.totals loop.live.totals (omega (arith, ap length none)) loop.invariant.small;
    }
