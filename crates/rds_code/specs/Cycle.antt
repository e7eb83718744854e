-- The cycle of block numbers: 1, 2, 3, 4, and 1 again (EN 50067:1998, section 2.1). `BlockNumber::next` answers the next number.
-- `rds_sync` says by it where sync is acquired, and which block a lock reads next.
use Rattle.std.specs.Prelude.{ℕ, ◌+◌, ◌-◌, ◌%◌}

-- the number of the block after one of number x
abbrev pub next_number : ℕ → ℕ
next_number x = x % 4 + 1

-- the number of the block k blocks after one of number x
abbrev pub number_after : ℕ → ℕ → ℕ
number_after x k = next_number (x - 1 + k)
