use Rattle.rds_code.proofs.Names.{common_steps, ◌≡◌, ℕ, ◌∙◌, ap, arith, List, length, replicate, take, ◌++◌, get_or-replicate, take-append-le, take_all, length-replicate, IsSound}
use Rattle.rds_code.proofs.burst_table.BurstTable.new.Goals as goal

-- an empty table has no burst
sound_at_first : (n : ℕ) (patterns : List ℕ) → patterns ≡ replicate n 0 → n ≡ 1024 → IsSound patterns
sound_at_first n patterns e long r within stands = grind (arith, common_steps, get_or-replicate)

pub enter_all-requires-clause-sound : goal.enter_all-requires-clause-sound
enter_all-requires-clause-sound c = sound_at_first 1024 c.deref_mut.result.now (c.deref_mut.ensures.value ∙ c.in_ok-patterns.ensures) (omega arith)

long_at_first : (n : ℕ) (patterns : List ℕ) → patterns ≡ replicate n 0 → length patterns ≡ n
long_at_first n patterns e = ap length e ∙ length-replicate {A = ℕ} n 0

-- a list written over the whole of a vector is all of it
written : (n : ℕ) (xs rest : List ℕ) → n ≡ length xs → take n (xs ++ rest) ≡ xs
written n xs rest e = take-append-le n xs rest (omega (arith, e)) ∙ take_all n xs (omega (arith, e))

pub invariant_of-result : goal.invariant_of-result
invariant_of-result c = grind (arith, common_steps, long_at_first, written)
