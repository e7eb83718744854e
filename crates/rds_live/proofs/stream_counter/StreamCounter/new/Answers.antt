use Rattle.rds_live.proofs.Names.{List, ap, ℕ, ◌∙◌, live_next}
use Rattle.rds_live.proofs.stream_counter.StreamCounter.new.Goals as goal

pub returns : goal.returns
returns c = ap (λ (xs : List ℕ). live_next c.args.live xs) c.in_ok-gathered.ensures.items ∙ c.is_still.ensures.known
