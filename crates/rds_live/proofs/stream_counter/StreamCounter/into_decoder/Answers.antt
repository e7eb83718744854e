use Rattle.rds_live.proofs.Names.{List, ap, ◌∙◌, ℕ, live_next}
use Rattle.rds_live.proofs.stream_counter.StreamCounter.into_decoder.Goals as goal

pub returns : goal.returns
returns g c = c.count_by.ensures.next ∙ ap (λ (xs : List ℕ). live_next c.self.inside.live xs) c.as_slice.ensures.value ∙ c.self.view_is
