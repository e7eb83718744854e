use Rattle.rds_code.proofs.GeneratorLemmas.{are_generator_and_mirror, divides_alike}
use Rattle.rds_code.proofs.laws.generator_is_one_of_two.Goals as goal

pub returns-clause-two : goal.returns-clause-two
returns-clause-two c = are_generator_and_mirror

pub returns-clause-same : goal.returns-clause-same
returns-clause-same c = divides_alike
