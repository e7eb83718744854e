-- The numbers that the rules may have. `Rules::of`, `new` and `with_share` refuse others, and `Rules::numbers`, `burst`, `reach` and `loss`
-- say that theirs are such. This project's own.
use Rattle.std.specs.Prelude.{ℕ, ◌<◌, ◌≤◌, ◌≡◌, ◌⊎◌}
use Rattle.rds_code.specs.declared.error.RdsError.{RdsError, TheVariants.BurstRange, TheVariants.LossRange, TheVariants.OutOfMemory, TheVariants.ReachRange, TheVariants.ShareRange}
use Rattle.rds_sync.specs.{declared.loss.Loss.Loss, declared.loss.Loss.TheVariants.Run, declared.loss.Loss.TheVariants.Share, Loss.IsLossRule, Rules.RuleNumbers}

-- the longest burst that is corrected, the farthest partner, and the most blocks that a rule of loss looks at
abbrev pub longest_burst : ℕ
longest_burst = 5

abbrev pub farthest_reach : ℕ
farthest_reach = 8

abbrev pub most_blocks : ℕ
most_blocks = 64

-- how many blocks a rule of loss looks at
abbrev pub blocks_seen : Loss → ℕ
blocks_seen (Run n) = n
blocks_seen (Share bad of) = of

-- the numbers that a rule of loss may have
abbrev pub IsLossInRange : Loss → Type 0
IsLossInRange loss = IsLossRule loss × (blocks_seen loss ≤ most_blocks)

-- the numbers that rules may have
pub record IsInRange (rules : RuleNumbers) : Type 0 where
  pub burst : rules.burst ≤ longest_burst
  pub some_reach : 1 ≤ rules.reach
  pub reach : rules.reach ≤ farthest_reach
  pub loss : IsLossInRange rules.loss

-- a number of bad blocks in a row that a rule may not have
abbrev pub IsRunOutside : Loss → Type 0
IsRunOutside (Run n) = (n < 1) ⊎ (most_blocks < n)
IsRunOutside (Share bad of) = ⊥

-- a share of bad blocks that a rule may not have
abbrev pub IsShareOutside : Loss → Type 0
IsShareOutside (Run n) = ⊥
IsShareOutside (Share bad of) = (bad < 1) ⊎ (of < bad) ⊎ (most_blocks < of)

-- the refusals that rules may have
abbrev pub IsOfRules : RdsError → Type 0
IsOfRules e = (e ≡ OutOfMemory) ⊎ (e ≡ BurstRange) ⊎ (e ≡ ReachRange) ⊎ (e ≡ LossRange) ⊎ (e ≡ ShareRange)
