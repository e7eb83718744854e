use Rattle.rds_sync.proofs.Lemmas.{common_steps, arith, Searching, step, lawful-due, lawful-lock, lawful_step}
use Rattle.rds_sync.proofs.steps.advance.Goals as goal

pub returns-in-Searching-clause-lawful : goal.returns-in-Searching-clause-lawful
returns-in-Searching-clause-lawful g c = grind (arith, common_steps, step, lawful_step, c.search.ensures.state, c.search.ensures.place, c.reach.ensures.range.loss.0, step (g.T.Tape.signal c.args.tape.now) c.args.rules.now c.args.place Searching, lawful_step (g.T.Tape.signal c.args.tape.now) c.args.rules.now c.reach.ensures.range.loss.0 c.args.place Searching tt)

pub returns-in-Locked-clause-lawful : goal.returns-in-Locked-clause-lawful
returns-in-Locked-clause-lawful g c = grind (arith, common_steps, lawful-lock, step, lawful-due)
