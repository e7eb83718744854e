use Rattle.rds_code.proofs.Names.{common_steps, ℕ, ◌+◌, ◌*◌, ◌^◌, ◌<◌, arith, List, below_more, HasBurst}
use Rattle.rds_code.proofs.BurstLemmas.{pattern_is_burst, small_pattern}
use Rattle.rds_code.proofs.burst_table.enter_all.Goals as goal

-- an odd pattern is in the table at each of its shifts
Entered : List ℕ → ℕ → Type 0
Entered patterns half = (shift : ℕ) → shift < 26 → (2 * half + 1) * 2 ^ shift < 2 ^ 26 → HasBurst patterns ((2 * half + 1) * 2 ^ shift)

pub loop-half-preserved : goal.loop-half-preserved
unfolding Entered
loop-half-preserved c =
    let now = c.enter_shifts.new.patterns in
    let all = below_more (Entered now) c.loop-half.half
    (λ half less shift within block.
    c.enter_shifts.ensures.kept ((2 * half + 1) * 2 ^ shift)
    (pattern_is_burst (2 * half + 1) shift (omega arith) (omega (arith, less, c.loop-half-test.true)) within block)
    (c.loop-half.invariant.entered half shift less within block))
    c.enter_shifts.ensures.entered in
    record { sound = c.enter_shifts.ensures.sound; entered = λ half shift less. all half less shift }

pub returns-clause-complete : goal.returns-clause-complete
returns-clause-complete c e h = grind (arith, common_steps, small_pattern)
