use Rattle.rds_uses.proofs.pieces.stitch_pieces.Goals as goal

pub returns-clause-totals : goal.returns-clause-totals
returns-clause-totals c = let totals = c.stitch.ensures.totals in rw c.new.ensures at totals
