-- Sections of a recording: places in a row whose windows all touch a gap, or of which none does. A reader and `ValidWindows` remember
-- one, and no caller sees it. This project's rule.
use Rattle.std.specs.Prelude.{◌≡◌, ◌<◌, ◌≤◌, ℕ, Bool}
use Rattle.rds_stream.specs.Recording.{Signal, touched}

-- whether the windows at the places from `from` to before `to` touch a gap: all of them, or none
abbrev pub IsSection : Signal → ℕ → ℕ → Bool → Type 0
IsSection b from to answer = (i : ℕ) → from ≤ i → i < to → touched b i ≡ answer
