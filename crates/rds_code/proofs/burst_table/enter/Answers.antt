use Rattle.rds_code.proofs.Names.{common_steps, ◌≡◌, ℕ, List, ◌<◌, arith, length, set, get_or-set_same, get_or-set_other, rem, IsBurst, HasBurst}
use Rattle.rds_code.proofs.{BurstLemmas.burst_is_one, RemainderLemmas.rem-lt}
use Rattle.rds_code.proofs.burst_table.enter.Goals as goal

-- a burst that stood in the table still does: where the new one takes its place, they are one
kept : (patterns : List ℕ) (r d e : ℕ) → r ≡ rem d → r < length patterns → IsBurst 5 d → IsBurst 5 e → HasBurst patterns e → HasBurst (set patterns r d) e
kept patterns r d e here within hd he stood = grind (arith, common_steps, set, get_or-set_same, burst_is_one, get_or-set_other)

pub returns-clause-kept : goal.returns-clause-kept
returns-clause-kept c e he stood = grind (arith, common_steps, kept, rem-lt)
