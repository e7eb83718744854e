use Rattle.rds_rows.proofs.Names.{common_steps, arith, ◌≡◌, concat, first_parts}
use Rattle.rds_rows.proofs.{Parts.all_rows, Promises.all_written, Promises.write_failed, Steps.but_all, write.write_by_seats.Given.Over, write.write_by_seats.Goals.After-write}
use Rattle.rds_rows.proofs.write.write_by_seats.Goals as goal

-- the parts, one after the other, are all rows
whole : (g : Over) (c : After-write g) → first_parts g.J.PartSpec.part c.args.parts ≡ concat (g.T.Rows.rows c.args.rows.now)
whole g c = grind (arith, common_steps, all_rows)

pub returns-in_default-Ok-clause-written : goal.returns-in_default-Ok-clause-written
returns-in_default-Ok-clause-written g c = grind (arith, common_steps, whole, all_written, but_all)

pub returns-clause-written : goal.returns-clause-written
returns-clause-written g c = grind (arith, common_steps, whole, write_failed)
