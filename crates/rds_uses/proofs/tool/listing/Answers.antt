use Rattle.rds_uses.proofs.Names.{IfSome_then}
use Rattle.rds_uses.proofs.Outcomes.{listed}
use Rattle.rds_uses.proofs.tool.listing.Goals as goal

pub returns : goal.returns
returns g c = IfSome_then c.written.result c.written.ensures (λ text is. listed c.args.bytes.now text.items c.args.rules.now c.args.job.now c.requires.few c.requires.job is)
