-- Vectors of two lanes, whose bits are consecutive places. `planes` and the words of valid places are made in
-- them, and no caller sees it.
use Rattle.std.specs.{Prelude.◌≡◌, Prelude.ℕ, Prelude.◌+◌, Prelude.◌-◌, Prelude.◌^◌, Prelude.◌<◌, Prelude.List, Prelude.[], Prelude.length, Prelude.slice_index, Prelude.slice_index_or, Int.bit_at}

-- the vector has two lanes, and lane j is f j
pub record HasLanes (v : List ℕ) (f : ℕ → ℕ) : Type 0 where
  pub long : length v ≡ 2
  pub each : (j : ℕ) → j < 2 → slice_index v j ≡ f j

-- the window that begins at bit k of the places, the first place lowest, is the block w: its lowest bit is that of its last place
pub record IsWindowAt (places k w : ℕ) : Type 0 where
  pub block : w < 2 ^ 26
  pub bits : (t : ℕ) → t < 26 → bit_at w t ≡ bit_at places (k + (25 - t))

-- lane j of vector r
abbrev pub lane : List (List ℕ) → ℕ → ℕ → ℕ
lane vectors r j = slice_index (slice_index_or vectors r []) j

-- at bit k of lane j the ten planes, a vector each, hold a remainder
pub record HoldInLane (planes : List (List ℕ)) (j k remainder : ℕ) : Type 0 where
  pub small : remainder < 2 ^ 10
  pub bits : (r : ℕ) → r < 10 → bit_at (lane planes r j) k ≡ bit_at remainder r
