use Rattle.rds_live.proofs.Names.{common_steps, ◌≡◌, ◌+◌, ◌-◌, ◌*◌, ◌++◌, ◌∙◌, List, ap, arith, length, sym, ℕ, length-append, LiveOf, most_counted, live_next, eqb-true, nil_from_length}
use Rattle.rds_live.proofs.{Following.at-most-more, Sewing.both-within, Sewing.within-all}
use Rattle.rds_live.proofs.stream_decoder.StreamDecoder.count.Goals as goal

pub loop-rest-init : goal.loop-rest-init
loop-rest-init c = grind (arith, common_steps, at-most-more)

pub loop-rest-preserved : goal.loop-rest-preserved
loop-rest-preserved c =
    let loop = c.loop-rest in
    let part = c.split_at.result.0.now in
    let others = c.split_at.result.1.now in
    let parted : loop.rest.now ≡ part ++ others = c.split_at.ensures.by_index.0 in
    let long = ap length parted ∙ length-append part others in
    let gone = c.count_part.ensures.next in
    record {
      next = ap (λ (l : LiveOf). live_next l others) gone ∙ (c.pieces_join.ensures loop.self part others c.is_known.ensures.range c.is_known.ensures.live).0
          ∙ ap (λ (xs : List ℕ). live_next loop.self xs) (sym parted) ∙ loop.invariant.next;
      place = omega (arith, ap (λ (l : LiveOf). l.place) gone, long, loop.invariant.place);
      few = omega (arith, long, loop.invariant.few);
      small = within-all (8 * (length c.args.bytes.now - length loop.rest.now) + 8 * length part) (8 * (length c.args.bytes.now - length others)) c.args.self.now.totals c.count_part.new.self.totals
          (omega (arith, long, loop.invariant.few)) (both-within _ _ _ _ _ loop.invariant.small c.count_part.ensures.small);
    }

pub returns-clause-next : goal.returns-clause-next
returns-clause-next c =
    let none = nil_from_length c.loop-rest.rest.now (eqb-true (length c.loop-rest.rest.now) 0 (sym c.is_empty.ensures ∙ c.loop-rest-test.false)) in
    sym c.is_still.ensures.known ∙ ap (λ (xs : List ℕ). live_next c.loop-rest.self xs) (sym none) ∙ c.loop-rest.invariant.next

pub returns-clause-small : goal.returns-clause-small
returns-clause-small c = record {
  within = λ n few.
      at-most-more (n + most_counted (8 * (length c.args.bytes.now - length c.loop-rest.rest.now))) (n + most_counted (8 * length c.args.bytes.now)) c.loop-rest.self.totals
      (omega arith) (c.loop-rest.invariant.small.within n few);
}
