use Rattle.rds_uses.proofs.crew.decoded_by_any.Goals as goal

pub returns-clause-totals : goal.returns-clause-totals
returns-clause-totals g c = let totals = c.decode_crew.ensures.totals in rw c.new-work.ensures at totals
