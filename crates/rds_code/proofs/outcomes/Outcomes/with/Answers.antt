use Rattle.rds_code.proofs.Names.{◌%◌, bit_xor, word}
use Rattle.rds_code.proofs.OutcomeLemmas.{at_most_13}
use Rattle.rds_code.proofs.outcomes.Outcomes.with.Goals as goal

pub returns-clause-most : goal.returns-clause-most
returns-clause-most c = at_most_13 c.args.self.now (bit_xor c.args.remainder (word c.args.offset)) (c.entry.result % 16) c.entry.ensures.few c.entry.ensures.entry.0
