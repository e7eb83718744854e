-- Gaps in a part of a stream: the stream's gaps, as far as they are in the part. No public call cites it; by
-- it a part is heard as the stream is (`Room`). This project's rule.
use Rattle.std.specs.Prelude.{ℕ, ◌-◌, List, Option, Some, None, if◌then◌else◌, filter_map, min, nat_lt}

-- a gap, as far as it is in the part of n places from place d on, by its places in the part
abbrev pub part_of_gap : ℕ → ℕ → ℕ × ℕ → Option (ℕ × ℕ)
part_of_gap d n gap =
    if nat_lt (gap.0 - d) (min (gap.1 - d) n) then Some (gap.0 - d, min (gap.1 - d) n) else None

-- the gaps of the part
abbrev pub gaps_within : List (ℕ × ℕ) → ℕ → ℕ → List (ℕ × ℕ)
gaps_within gaps d n = filter_map (part_of_gap d n) gaps
