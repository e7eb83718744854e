use Rattle.rds_abi.proofs.{Shared.sym, Shared.◌∙◌, Shared.false≢true, GapLists.are-gaps, GapLists.gaps-apart, GapLists.gaps-lie}
use Rattle.rds_abi.proofs.asked.are_gaps.Goals as goal

pub returns-then-are_within : goal.returns-then-are_within
returns-then-are_within c =
    let n = c.args.bits in
    let gaps = c.args.gaps.now in (
      λ is. are-gaps n gaps (c.are_within.ensures.0 c.if-are_within.true) (c.are_apart.ensures.0 is),
      λ are. c.are_apart.ensures.1 (gaps-apart n gaps are),
    )

pub returns-else-are_within : goal.returns-else-are_within
returns-else-are_within c =
    let n = c.args.bits in
    let gaps = c.args.gaps.now in (
      λ is. absurd (false≢true (sym c.if-are_within.false ∙ is)),
      λ are. c.are_within.ensures.1 (gaps-lie n gaps are),
    )
