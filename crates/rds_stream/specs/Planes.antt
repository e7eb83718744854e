-- Remainders of many places at once, bit by bit: ten numbers, of which each has a bit for each place. `planes` answers them.
use Rattle.std.specs.{Prelude.◌≡◌, Prelude.ℕ, Prelude.◌^◌, Prelude.◌<◌, Prelude.List, Prelude.slice_index, Int.bit_at}

-- at bit k the ten planes hold a remainder: bit k of plane r is its bit r
pub record Hold (planes : List ℕ) (k remainder : ℕ) : Type 0 where
  pub small : remainder < 2 ^ 10
  pub bits : (r : ℕ) → r < 10 → bit_at (slice_index planes r) k ≡ bit_at remainder r
