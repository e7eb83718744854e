use Rattle.rds_code.proofs.{ErrorMasks.lists_all_error_masks, MiscorrectionLemmas.counts_all_miscorrections}
use Rattle.rds_code.proofs.laws.miscorrections_are_counted.Goals as goal

pub returns-clause-masks : goal.returns-clause-masks
returns-clause-masks c = lists_all_error_masks

pub returns-clause-counts : goal.returns-clause-counts
returns-clause-counts c = counts_all_miscorrections
