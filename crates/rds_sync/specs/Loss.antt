-- When a lock is lost. `Run n`: after n bad blocks in a row. `Share bad of`: if at least `bad` of its last `of` blocks
-- are bad. The rule is defined twice: a decoder updates a loss history (`bad_after`, `are_too_many`), and the report
-- looks at the blocks (`loses`). The law `bad_blocks_lose` says that both agree. `masks_tell_blocks` tells the bits of
-- a mask, and `runs_are_shares` that `Run n` is `Share n n`.
--
-- This project's rules: the standard (EN 50067:1998, 2.4 and annex C) leaves to the receiver when it takes
-- sync for lost.
use Rattle.std.specs.Prelude.{ℕ, zero, suc, List, ◌+◌, ◌-◌, ◌*◌, ◌%◌, ◌^◌, ◌<◌, ◌≤◌, min, Bool, not, ◌&&◌, nat_le, if◌then◌else◌, count_by, count_ones}
use Rattle.std.specs.List.{list_all, range_with_len}
use Rattle.rds_sync.specs.declared.loss.{Bad.Bad, Loss.Loss, Loss.TheVariants.Run, Loss.TheVariants.Share}

-- a rule that keeps a lock with no bad block, and loses one whose blocks are all bad
abbrev pub IsLossRule : Loss → Type 0
IsLossRule (Run n) = 1 ≤ n
IsLossRule (Share bad of) = (1 ≤ bad) × (bad ≤ of)

-- the loss history after one more block; 0 if no block was bad. `Run`: the number of bad blocks in a row. `Share`: a
-- mask of the last `of` blocks, with 1 for a bad one and the newest lowest
abbrev pub bad_after : Loss → Bool → ℕ → ℕ
bad_after (Run n) good row = if good then 0 else row + 1
bad_after (Share bad of) good mask = (2 * mask + (if good then 0 else 1)) % 2 ^ of

-- the loss history after block k of a lock. k counts from 0, the block that acquired sync, which is never bad.
-- `is_good` tells the good blocks.
abbrev pub bad_at : (ℕ → Bool) → Loss → ℕ → ℕ
bad_at is_good loss zero = 0
bad_at is_good loss (suc k) = bad_after loss (is_good (suc k)) (bad_at is_good loss k)

-- whether this loss history loses the lock
abbrev pub are_too_many : Loss → ℕ → Bool
are_too_many (Run n) row = nat_le n row
are_too_many (Share bad of) mask = nat_le bad (count_ones mask)

-- the loss histories of a lock that is not lost
abbrev pub IsLawfulBad : Loss → ℕ → Type 0
IsLawfulBad (Run n) row = row < n
IsLawfulBad (Share bad of) mask = (mask < 2 ^ of) × (count_ones mask < bad)

-- a loss history as a `Bad`, by its rule
abbrev pub bad_by : Loss → ℕ → Bad
bad_by (Run n) row = Bad.Run row
bad_by (Share bad of) mask = Bad.Mask mask

-- the last `of` blocks up to block k, without block 0; fewer if k is less than `of`
abbrev pub last_blocks : ℕ → ℕ → List ℕ
last_blocks of k = range_with_len (k + 1 - min of k) (min of k)

-- whether a lock is lost at block k. `Run n`: block k and the n - 1 before it are bad. `Share bad of`: at least `bad` of
-- its last `of` blocks are. Block 0 is never counted. The two forms check each other (`runs_are_shares`).
abbrev pub loses : Loss → (ℕ → Bool) → ℕ → Bool
loses (Run n) is_good k = nat_le n k && list_all (λ j. not (is_good j)) (range_with_len (k + 1 - n) n)
loses (Share bad of) is_good k = nat_le bad (count_by (λ j. not (is_good j)) (last_blocks of k))
