use Rattle.rds_tool.proofs.Names.{common_steps, arith, ◌≡◌, ◌++◌, ◌⊎◌, ◌∙◌, List, ap, sym, ℕ, rows_so_far, RdsError, OutOfMemory, TooLong, Write}
use Rattle.rds_tool.proofs.Passing.{passes}
use Rattle.rds_tool.proofs.following.follow_chunk.Goals as goal

-- what its rows are refused for, it is refused for
rows_refuse : (e : RdsError) → (e ≡ OutOfMemory) ⊎ (e ≡ TooLong) → (e ≡ OutOfMemory) ⊎ ((e ≡ Write) ⊎ (e ≡ TooLong))
rows_refuse e it = grind (arith, common_steps)

pub returns-in_err-next-clause-kinds : goal.returns-in_err-next-clause-kinds
returns-in_err-next-clause-kinds g c = passes _ _ _ c.from_residual.ensures (rows_refuse _ c.in_err-next.ensures.kinds)

pub returns-in_err-write_to-clause-prefix : goal.returns-in_err-write_to-clause-prefix
returns-in_err-write_to-clause-prefix g c p before h = (
  c.rows.result.now,
  c.in_ok-next.ensures.rows before h ∙ ap (λ (ys : List ℕ). rows_so_far c.args.lister.live.terms before ++ ys) (sym c.rows.ensures),
  c.in_err-write_to.ensures.prefix,
)
