use Rattle.rds_code.proofs.GeneratorLemmas.{syndromes_are_remainders}
use Rattle.rds_code.proofs.laws.syndromes_are_remainders.Goals as goal

pub returns : goal.returns
returns c = syndromes_are_remainders
