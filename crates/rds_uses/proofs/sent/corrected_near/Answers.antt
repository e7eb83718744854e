use Rattle.rds_uses.proofs.Names.{A, Either, arith, ◌≡◌}
use Rattle.rds_code.proofs.ReadingLemmas.{only_A}
use Rattle.rds_code.specs.{declared.reading.Reading.TheVariants.Corrected, Reading.reading}
use Rattle.rds_uses.proofs.sent.corrected_near.Goals as goal

pub returns-in-Corrected-clause-near : goal.returns-in-Corrected-clause-near
returns-in-Corrected-clause-near c =
    let own = only_A c.in-Corrected.offset c.in-Corrected.ensures.rule.1.fits.own in
    let is : reading c.args.w 1 Either c.args.limit ≡ Corrected A c.in-Corrected.info c.in-Corrected.burst = cc in
    λ _. (((c.corrected_words_are_few.ensures.shares A c.args.limit (omega arith)).exactly c.args.w).0
    (c.in-Corrected.info, c.in-Corrected.burst, is)).0
