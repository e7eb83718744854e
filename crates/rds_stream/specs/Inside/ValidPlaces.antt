-- Words of valid places: which of up to 64 places in a row are valid. `ValidWindows` uses them, and no caller
-- sees it.
use Rattle.std.specs.{Prelude.◌≡◌, Prelude.ℕ, Prelude.◌+◌, Prelude.◌<◌, Prelude.◌≤◌, Prelude.◌↔◌, Prelude.IsSome, Int.bit_at}
use Rattle.rds_stream.specs.Recording.{Signal, offset_at}

-- bit k of the word tells whether place `next` + k has an offset, for the places before `ahead`, which are 64 at most
pub record TellsValidPlaces (b : Signal) (next ahead word : ℕ) : Type 0 where
  pub order : next ≤ ahead
  pub width : ahead ≤ next + 64
  pub told : (k : ℕ) → next + k < ahead → (bit_at word k ≡ 1) ↔ IsSome (offset_at b (next + k))
  pub past : (k : ℕ) → ahead ≤ next + k → bit_at word k ≡ 0
