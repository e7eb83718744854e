use Rattle.rds_tool.proofs.Names.{common_steps, arith, ◌≡◌, ◌∙◌, Err, Ok, Result, ap, subst, sym, IfErr, and_then, IsMemoryOrErrOf, RdsError, Task}
use Rattle.rds_tool.proofs.Passing.{passed, passes}
use Rattle.rds_tool.proofs.task.Task.of.Goals as goal

error_is : {B : Type 0} (e x : RdsError) → let call : Result B RdsError = Err e in call ≡ Err x → e ≡ x
error_is e x p = cc

-- the task is made of what a first step gives
module _ {A : Type 0} (made : Result Task RdsError) (first : Result A RdsError) (step : A → Result Task RdsError) (is : made ≡ and_then first step) where
  -- a refusal of that step is one of the task
  refused_first : (e : RdsError) → IsMemoryOrErrOf first e → IsMemoryOrErrOf made e
  refused_first e it = grind (arith, common_steps)

  -- and is answered
  told_first : (B : Type 0) {C : Type 0} (r : Result C RdsError) (e : RdsError) → r ≡ Err e → ((x : A) → IfErr (step x) (λ k. r ≡ Err k))
      → IfErr first (λ k. let call : Result B RdsError = Err e in call ≡ Err k) → IfErr made (λ k. r ≡ Err k)
  told_first B r e same other told = by first is told where
    by : (f : Result A RdsError) → made ≡ and_then f step → IfErr f (λ k. let call : Result B RdsError = Err e in call ≡ Err k) → IfErr made (λ k. r ≡ Err k)
    by (Ok x) is told = subst (λ m. IfErr m (λ k. r ≡ Err k)) (sym is) (other x)
    by (Err x) is told = subst (λ m. IfErr m (λ k. r ≡ Err k)) (sym is) (same ∙ ap (λ k. Err k) (error_is e x told))

pub returns-in_err-workers-in-Scan-clause-refused : goal.returns-in_err-workers-in-Scan-clause-refused
returns-in_err-workers-in-Scan-clause-refused c = grind (arith, common_steps, passes, refused_first)

pub returns-in_err-input-in-List-clause-refused : goal.returns-in_err-input-in-List-clause-refused
returns-in_err-input-in-List-clause-refused c = grind (arith, common_steps, passes, refused_first)

pub returns-in_err-input-in-List-clause-settings : goal.returns-in_err-input-in-List-clause-settings
returns-in_err-input-in-List-clause-settings c = grind (arith, common_steps, told_first, passed)

pub returns-in_err-input-in-Totals-clause-refused : goal.returns-in_err-input-in-Totals-clause-refused
returns-in_err-input-in-Totals-clause-refused c = grind (arith, common_steps, passes, refused_first)

pub returns-in_err-input-in-Totals-clause-settings : goal.returns-in_err-input-in-Totals-clause-settings
returns-in_err-input-in-Totals-clause-settings c = grind (arith, common_steps, told_first, passed)
