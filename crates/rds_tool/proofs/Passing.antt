-- A refusal that `?` passes on.
use Rattle.rds_tool.proofs.Names.{common_steps, arith, ◌≡◌, Err, Ok, Result, subst, sym, IfErr, IfOk, OnErr, IsErr, IsErrAnd, RdsError}

pub passed : {T E : Type 0} (r : Result T E) (e : E) → IsErr r × IsErrAnd r (λ x. x ≡ e) → r ≡ Err e
passed r e h = grind (arith, common_steps)

-- it is of only one kind
pub passed_kind : {T : Type 0} (r : Result T RdsError) (e k : RdsError) → r ≡ Err e → r ≡ Err k → e ≡ k
passed_kind r e k p q = cc

-- and what holds of it holds of the answer
pub passes : {T E : Type 0} (r : Result T E) (e : E) (P : E → Type 0) → IsErr r × IsErrAnd r (λ x. x ≡ e) → P e → IfErr r P
passes r e P h p = subst (λ x. IfErr x P) (sym (passed r e h)) p

-- a fact that holds in any case holds if there is an error
pub on_any_err : {T E P : Type 0} (r : Result T E) → P → OnErr r P
on_any_err r p = grind (arith, common_steps)

-- if there is an error, nothing need hold of an answer
pub no_ok : {T E : Type 0} (P : T → Type 0) (r : Result T E) (e : E) → r ≡ Err e → IfOk r P
no_ok P r e h = grind (arith, common_steps)

-- a success is no error
pub ok_is_no_err : {T E X : Type 0} (x : T) (e : E) → let r : Result T E = Ok x in r ≡ Err e → X
ok_is_no_err x e p = cc p

-- if there is a success, nothing need hold of an error
pub no_err : {T E : Type 0} (P : E → Type 0) (r : Result T E) (x : T) → r ≡ Ok x → IfErr r P
no_err P r x h = grind (arith, common_steps)
