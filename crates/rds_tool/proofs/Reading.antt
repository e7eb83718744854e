-- Reads in turn, and what the refusals of a read tell.
use Rattle.rds_tool.proofs.Names.{common_steps, ◌++◌, append_assoc, ◌<◌, ◌≡◌, ◌↔◌, ◌∙◌, ◌⊎◌, Err, List, Ok, Option, Result, ap, arith, inl, inr, refl, subst, sym, ℕ, Consumes, IsAtEnd, IfSome, Consumes-trans, Consumes-whole, RdsError, OutOfMemory, Read, TooManyTurns, append-nil}
use Rattle.rds_tool.proofs.Passing.{passed, passed_kind}

-- bytes read so far, and then a read
pub read_more : (a b c : Option (List ℕ)) (xs more ys : List ℕ) → Consumes a b xs → Consumes b c more → ys ≡ xs ++ more → Consumes a c ys
read_more a b c xs more ys p q e = subst (λ zs. Consumes a c zs) (sym e) (Consumes-trans a b c xs more p q)

-- bytes given so far, and then by a read
pub given_more : (a b c xs more ys : List ℕ) → b ≡ a ++ xs → c ≡ b ++ more → ys ≡ xs ++ more → c ≡ a ++ ys
given_more a b c xs more ys p q e = q ∙ (ap (λ w. w ++ more) p ∙ (append_assoc a xs more ∙ ap (λ w. a ++ w) (sym e)))

-- at the end all was read
pub read_whole : (a b : Option (List ℕ)) (xs : List ℕ) → Consumes a b xs → IsAtEnd b → IfSome a (λ held. xs ≡ held)
read_whole a b xs p q = Consumes-whole a b xs (λ held. xs ≡ held) p q refl

-- memory was refused and no failure counted, or the read failed and was counted
abbrev pub Refuses : RdsError → ℕ → ℕ → Type 0
Refuses e before after = ((e ≡ OutOfMemory) × (after ≡ before)) ⊎ ((e ≡ Read) × (before < after))

module _ {T : Type 0} (r : Result T RdsError) (e : RdsError) (same : r ≡ Err e) where
  pub read_told : (start before after : ℕ) → before ≡ start → Refuses e before after → (r ≡ Err Read) ↔ (start < after)
  read_told start before after kept it = grind (arith, common_steps, passed_kind)

  pub turns_not_told : {X : Type 0} (before after : ℕ) → Refuses e before after → r ≡ Err TooManyTurns → X
  turns_not_told before after (inl h) p = let bad : OutOfMemory ≡ TooManyTurns = sym h.0 ∙ passed_kind r e TooManyTurns same p in cc bad
  turns_not_told before after (inr h) p = let bad : Read ≡ TooManyTurns = sym h.0 ∙ passed_kind r e TooManyTurns same p in cc bad

pub kind_told : (e : RdsError) (before after : ℕ) → Refuses e before after → (e ≡ OutOfMemory) ⊎ ((e ≡ Read) ⊎ (e ≡ TooManyTurns))
kind_told e before after it = grind (arith, common_steps)

-- if no read failed, none was counted
pub ok_told : {T : Type 0} (x : T) (start after : ℕ) → after ≡ start → let r : Result T RdsError = Ok x in (r ≡ Err Read) ↔ (start < after)
ok_told x start after kept = (λ p. cc p, λ q. absurd (omega arith))

pub end_told : {T : Type 0} (start after : ℕ) → after ≡ start → let r : Result T RdsError = Err TooManyTurns in (r ≡ Err Read) ↔ (start < after)
end_told start after kept = (λ p. cc p, λ q. absurd (omega arith))

-- the steps of functions that need no answer
pub ruleset read_steps = (common_steps, append-nil, read_whole, read_more, given_more, read_told, passed)
