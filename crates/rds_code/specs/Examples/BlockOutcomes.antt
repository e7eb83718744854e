-- The outcomes of blocks: each pair of a span and a number of ones has its own.
use Rattle.std.specs.Prelude.{◌≡◌, ℕ, [], ◌∷◌, map, refl}
use Rattle.rds_code.specs.{declared.offset.Offset.TheVariants.A, declared.reading.Reading.TheVariants.Valid, declared.reading.Reading.TheVariants.Lost, Outcomes.outcome_number, Outcomes.burst_outcome}

pub eleven_pairs : map (λ (p : ℕ × ℕ). burst_outcome p.0 p.1)
    ((1, 1) ∷ (2, 2) ∷ (3, 2) ∷ (3, 3) ∷ (4, 2) ∷ (4, 3) ∷ (4, 4) ∷ (5, 2) ∷ (5, 3) ∷ (5, 4) ∷ (5, 5) ∷ [])
    ≡ 3 ∷ 4 ∷ 5 ∷ 6 ∷ 7 ∷ 8 ∷ 9 ∷ 10 ∷ 11 ∷ 12 ∷ 13 ∷ []
eleven_pairs = refl

pub valid_and_lost : map outcome_number (Valid A 0x1234 ∷ Lost ∷ []) ≡ 1 ∷ 2 ∷ []
valid_and_lost = refl
