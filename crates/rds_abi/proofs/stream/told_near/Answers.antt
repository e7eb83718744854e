use Rattle.rds_abi.proofs.stream.told_near.Goals as goal

pub returns-clause-near : goal.returns-clause-near
returns-clause-near c = record {
  rules = c.in_ok-rules.ensures.rules;
  gaps = λ n less. rw c.in_ok-gaps.ensures (c.near.ensures.same n less);
  may = c.in_ok-rules.ensures.gaps;
  some = rw c.in_ok-gaps.ensures c.near.ensures.some;
}
