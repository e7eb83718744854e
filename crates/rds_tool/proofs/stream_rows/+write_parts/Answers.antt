use Rattle.rds_tool.proofs.Names.{common_steps, arith, ◌++◌, ◌∷◌, ◌≡◌, ◌∙◌, List, Option, Result, ap, ap₂, append_assoc, sym, ℕ, OnErr, Appends, flat_map, Appends-trans, AppendsPrefix}
use Rattle.rds_tool.proofs.Passing.{on_any_err}
use Rattle.rds_tool.proofs.stream_rows.+write_parts.Goals as goal

-- a beginning of the first part is one of all
of_first : {P : Type 0} (f : P → List ℕ) (parts rest : List P) (part : P) (text : List ℕ) (old new : Option (List ℕ)) → parts ≡ part ∷ rest → text ≡ f part
    → AppendsPrefix old new text → AppendsPrefix old new (flat_map f parts)
of_first f parts rest part text old new are is (prefix, left, split, did) = (
  prefix,
  left ++ flat_map f rest,
  ap (λ ps. flat_map f ps) are ∙ ap (λ ys. ys ++ flat_map f rest) (sym is ∙ split) ∙ append_assoc prefix left (flat_map f rest),
  did,
)

-- and so are the first part and a beginning of the others
of_others : {P : Type 0} (f : P → List ℕ) (parts rest : List P) (part : P) (text : List ℕ) (old mid new : Option (List ℕ)) → parts ≡ part ∷ rest → text ≡ f part
    → Appends old mid text → AppendsPrefix mid new (flat_map f rest) → AppendsPrefix old new (flat_map f parts)
of_others f parts rest part text old mid new are is first (prefix, left, split, did) = (
  text ++ prefix,
  left,
  ap (λ ps. flat_map f ps) are ∙ ap₂ (λ xs ys. xs ++ ys) (sym is) split ∙ sym (append_assoc text prefix left),
  Appends-trans old mid new text prefix first did,
)

on_err : {T E P Q : Type 0} (r : Result T E) → (P → Q) → OnErr r P → OnErr r Q
on_err r more p = grind (arith, common_steps)

pub returns-in_err-write_all-in-Some-clause-prefix : goal.returns-in_err-write_all-in-Some-clause-prefix
returns-in_err-write_all-in-Some-clause-prefix g t c =
    on_any_err _ (of_first _ _ _ _ _ _ _ c.in-Some.ensures.cases.0 c.as_slice.ensures.value c.in_err-write_all-in-Some.ensures.prefix)

pub returns-in_ok-write_all-in-Some-clause-prefix : goal.returns-in_ok-write_all-in-Some-clause-prefix
returns-in_ok-write_all-in-Some-clause-prefix g t c =
    on_err c.write_parts.result (of_others _ _ _ _ _ _ _ _ c.in-Some.ensures.cases.0 c.as_slice.ensures.value c.in_ok-write_all-in-Some.ensures.ok) c.write_parts.ensures.prefix
