-- A run that goes on, part by part, is one run.
use Rattle.rds_pieces.proofs.Names.{common_steps, ◌≡◌, ℕ, ◌≤◌, arith, append_assoc, append-nil, TallyOf, gone_on, RunLaws}

-- one that has not gone on
pub gone-none : (t : TallyOf) → gone_on t t.place ≡ t
gone-none t = grind (arith, common_steps, append-nil)

-- one that has gone on twice
pub gone-again : RunLaws → (t : TallyOf) (middle to : ℕ) → t.place ≤ middle → middle ≤ to → gone_on (gone_on t middle) to ≡ gone_on t to
gone-again laws t middle to low high = grind (arith, common_steps, append_assoc)
