use Rattle.rds_sync.proofs.Lemmas.{◌≡◌, ◌+◌, ◌%◌, false, true, refl, subst, ◌∙◌, arith, Loss, blocks_at, wanted_behind, first_behind, bad_after, are_too_many, word-tells, bad-there, two-are}
use Rattle.rds_sync.proofs.short_lock.word_if_lost.Goals as goal

pub returns-then-outcome-from-clause-lost : goal.returns-then-outcome-from-clause-lost
returns-then-outcome-from-clause-lost c =
    let b = c.args.reader.now in
    let rules = c.args.rules.now in
    let place = c.args.place in
    let x = c.args.number in
    let k = c.outcome_after-outcome.result in
    let value = c.outcome_after-outcome.ensures.value in
    record {
      before = omega (arith, c.if-to-place.false);
      bad = bad-there b (place + 26) (x % 4 + 1) (wanted_behind b rules place x) rules.burst k (omega arith) value
          (λ e. c.if-outcome-from.true (omega (arith, e, c.from.ensures)));
      loses = subst (λ (loss : Loss). are_too_many loss (bad_after loss false 0) ≡ true) c.loss-loss.ensures.value (c.loses_by_one.ensures c.if-loses_by_one.true);
      blocks = word-tells b rules (first_behind x) (x % 4 + 1) (place + 26) (blocks_at b rules (first_behind x) (x % 4 + 1) (place + 26)) refl
          (record { lists = c.bursts_are_listed.ensures; reads = c.readings_follow_the_rule.ensures }) c.loss-loss.ensures.range.burst c.word_of_two.result
          (c.word_of_two.ensures ∙ two-are b rules place x k c.requires.valid.0 (omega arith) (omega arith) c.requires.valid.1 value);
    }
