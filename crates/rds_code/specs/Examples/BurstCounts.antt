-- Worked example: how many bursts there are, by span. A span of s has 2 ^ (s - 2) patterns from 2 on, at 27 - s places each.
use Rattle.std.specs.Prelude.{◌≡◌, [], ◌∷◌, map, length, refl}
use Rattle.rds_code.specs.Bursts.{patterns, bursts_of_length, bursts}

pub patterns_by_span : map (λ s. length (patterns s)) (1 ∷ 2 ∷ 3 ∷ 4 ∷ 5 ∷ []) ≡ 1 ∷ 1 ∷ 2 ∷ 4 ∷ 8 ∷ []
patterns_by_span = refl

pub bursts_by_span : map (λ s. length (bursts_of_length s)) (1 ∷ 2 ∷ 3 ∷ 4 ∷ 5 ∷ [])
    ≡ 26 ∷ 25 ∷ 48 ∷ 92 ∷ 176 ∷ []
bursts_by_span = refl

pub all_bursts : length (bursts 5) ≡ 367
all_bursts = refl

pub no_bursts : bursts 0 ≡ []
no_bursts = refl
