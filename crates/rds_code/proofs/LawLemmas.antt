-- The laws in the forms that their calls state.
use Rattle.rds_code.proofs.Names.{common_steps, arith, sym, subst, bursts, IsBlockOf}
use Rattle.rds_code.{specs.Laws.ListsBursts, specs.Laws.ReadsByRule, specs.Laws.HasOneBlock, proofs.Membership.among_contains, proofs.Membership.contains_among, proofs.BurstLemmas.limit_is_among, proofs.BurstLemmas.among_limit_is, proofs.ReadingLemmas.reading_is, proofs.ReadingLemmas.reading_is_one, proofs.EncodingLemmas.encoded_is, proofs.EncodingLemmas.encoded_only}

pub lists_bursts : ListsBursts
lists_bursts limit e few = (
  λ burst. among_contains e (bursts limit) (limit_is_among limit e few burst),
  λ listed. among_limit_is limit e few (contains_among e (bursts limit) listed),
)

pub reads_by_rule : ReadsByRule
reads_by_rule w x wanted limit r low high few = grind (arith, common_steps, reading_is_one, reading_is)

pub has_one_block : HasOneBlock
has_one_block w info o small = (λ h. encoded_only w info o h, λ same. subst (λ v. IsBlockOf v info o) (sym same) (encoded_is info o small))
