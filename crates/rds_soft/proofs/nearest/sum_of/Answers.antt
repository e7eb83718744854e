use Rattle.rds_soft.proofs.Names.{◌<◌, ℕ, sym, subst, xor_lt}
use Rattle.rds_soft.proofs.NearestLemmas.{word_small}
use Rattle.rds_soft.proofs.nearest.sum_of.Goals as goal

pub returns-clause-small : goal.returns-clause-small
returns-clause-small c =
    xor_lt 10 c.rem26.result c.word.result c.rem26.ensures.remainder.small
    (subst (λ (n : ℕ). n < 1024) (sym c.word.ensures) (word_small c.args.offset))
