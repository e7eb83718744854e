-- How soon a run meets the guess of a piece: this project's rule. `seam` and `join_runs` promise it.
use Rattle.std.specs.Prelude.{◌≡◌, ℕ, ◌+◌, ◌≤◌, Option, Some}
use Rattle.rds_stream.specs.Recording.{Signal}
use Rattle.rds_sync.specs.{declared.state.State.State, Rules.RuleNumbers, Convergence.IsSound, Convergence.sound_bits}
use Rattle.rds_pieces.specs.Meeting.{MeetFirstAt}

-- if a sound range is inside the piece from `from` to `to` - 1, they meet by the range's end
abbrev pub IsSoonMet : Signal → RuleNumbers → ℕ → ℕ → Option ℕ → Type 0
IsSoonMet b rules from to met = (j s p c : ℕ) → IsSound b rules j s p c → from ≤ s
    → s + sound_bits rules.loss j ≤ to
    → (place : ℕ) × (met ≡ Some place) × (place ≤ s + sound_bits rules.loss j)

-- the same of the runs from two states, for a call that answers no place
abbrev pub MeetSoon : Signal → RuleNumbers → State → State → ℕ → ℕ → Type 0
MeetSoon b rules one other from to = (j s p c : ℕ) → IsSound b rules j s p c → from ≤ s
    → s + sound_bits rules.loss j ≤ to
    → (place : ℕ) × MeetFirstAt b rules one other from to place × (place ≤ s + sound_bits rules.loss j)
