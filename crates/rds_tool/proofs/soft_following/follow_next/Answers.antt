use Rattle.rds_tool.proofs.Names.{common_steps, arith, ◌≡◌, ◌⊎◌, RdsError, OutOfMemory, TooLong, Write}
use Rattle.rds_tool.proofs.Passing.{passes}
use Rattle.rds_tool.proofs.soft_following.follow_next.Goals as goal

-- what its rows are refused for, it is refused for
rows_refuse : (e : RdsError) → (e ≡ OutOfMemory) ⊎ (e ≡ TooLong) → (e ≡ OutOfMemory) ⊎ ((e ≡ Write) ⊎ (e ≡ TooLong))
rows_refuse e it = grind (arith, common_steps)

pub returns-in_err-rows-clause-kinds : goal.returns-in_err-rows-clause-kinds
returns-in_err-rows-clause-kinds g c = passes _ _ _ c.from_residual.ensures (rows_refuse _ c.in_err-rows.ensures.kinds)
