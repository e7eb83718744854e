use Rattle.rds_tool.proofs.Names.{inl, refl, BitsPastBytes, Read}
use Rattle.rds_tool.proofs.{Followed.differ, Followed.no_such, Followed.of_neither, Passing.passed}
use Rattle.rds_tool.proofs.following.read_last.Goals as goal

pub returns-in_err-count-clause-past : goal.returns-in_err-count-clause-past
returns-in_err-count-clause-past g c = no_such _ _ (passed _ _ c.from_residual.ensures) BitsPastBytes (of_neither _ Read Read BitsPastBytes (inl c.in_err-count.ensures.kinds) (differ _ _ refl) (differ _ _ refl))
