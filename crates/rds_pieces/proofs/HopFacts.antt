-- Facts about a hop, from a bit and the place of the next block.
use Rattle.rds_pieces.proofs.Names.{common_steps, ◌≡◌, ℕ, ◌+◌, ◌⊎◌, arith, Signal, Lock, State, Locked, RuleNumbers, run, step, step-acquiring, step-searching, step-waiting, step-keeping, step-losing, run_state-append}

module _ (b : Signal) (rules : RuleNumbers) where
  -- a lock was there before the bit, or its block is due 26 places after it
  pub entered : (i : ℕ) (t : State) (lock : Lock) → step b rules i t ≡ Locked lock → (t ≡ Locked lock) ⊎ (lock.due ≡ i + 26)
  entered i t lock e = grind (arith, common_steps, step-searching, step-acquiring, step-waiting, step-keeping, step-losing)

  pub run-last : (s : State) (a n : ℕ) → (run b rules s a (n + 1)).0 ≡ step b rules (a + n) (run b rules s a n).0
  run-last s a n = run_state-append b rules s a n 1
