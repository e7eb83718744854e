use Rattle.rds_code.proofs.Names.{◌∙◌, ap, Wanted, outcome_number, reading}
use Rattle.rds_code.proofs.ThirdLemmas.{entry, entry_most, of_outcomes}
use Rattle.rds_code.proofs.thirds.third.Goals as goal

pub returns-clause-value : goal.returns-clause-value
returns-clause-value c w limit few a b =
    entry c.version_wanted.result c.from.result c.from-2.result c.args.version_a c.args.version_b c.from.ensures c.from-2.ensures c.version_wanted.ensures.most c.requires.0 c.requires.1
    ∙ of_outcomes w limit few c.version_wanted.result c.args.version_a c.args.version_b a b
    ∙ ap (λ (wanted : Wanted). outcome_number (reading w 3 wanted limit)) c.version_wanted.ensures.version

pub returns-clause-most : goal.returns-clause-most
returns-clause-most c = entry_most c.version_wanted.result c.from.result c.from-2.result c.args.version_a c.args.version_b c.from.ensures c.from-2.ensures c.version_wanted.ensures.most c.requires.0 c.requires.1
