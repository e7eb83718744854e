use Rattle.rds_rows.proofs.Names.{part_of}
use Rattle.rds_rows.proofs.write.by_value.Given as goal

abbrev pub ghosts-write_by_seats : goal.ghosts-write_by_seats
ghosts-write_by_seats g a = record { part = part_of (g.T.Rows.rows a.rows.now) a.most; size = (a.most, g.T.Rows.longest a.rows.now) }
