-- The nearest block: this project's rule of soft decisions. A bit of the air is the sum of the signs of two symbols in a
-- row, so a block of 26 bits has 27 symbols, the first of which is also the last of the block before it. Each symbol has
-- a confidence: how much it weighs to flip it, that is, to take its sign for wrong.
use Rattle.std.specs.Prelude.{◌≡◌, ◌≢◌, ℕ, ◌+◌, ◌-◌, ◌*◌, ◌/◌, ◌%◌, ◌^◌, ◌<◌, ◌≤◌, Option, Some, None, List, bit_xor, slice_index, sum_by, IsTrue}
use Rattle.std.specs.{List.range_with_len, Int.bit_at}
use Rattle.rds_code.specs.{declared.offset.Offset.Offset, declared.reading.Wanted.Wanted, Remainder.rem, Offsets.word, Offsets.number, Reading.allows}
use Rattle.rds_soft.specs.declared.correction.Correction.{Correction}

-- flips of symbols are a word of 27 bits, the first symbol highest. Each inverts the bits beside its symbol
abbrev pub mask_of : ℕ → ℕ
mask_of flips = bit_xor flips (flips / 2) % 2 ^ 26

-- the weight of the flips: the sum of the confidences of the symbols that they flip
abbrev pub weight : List ℕ → ℕ → ℕ
weight confidences flips = sum_by (λ k. bit_at flips (26 - k) * slice_index confidences k) (range_with_len 0 27)

-- flips of more weight correct nothing
abbrev pub top : ℕ
top = 127

-- the flips turn the window w into block x with a wanted offset o
pub record Turns (w x : ℕ) (wanted : Wanted) (o : Offset) (flips : ℕ) : Type 0 where
  pub symbols : flips < 2 ^ 27
  pub own : number o ≡ x
  pub allowed : IsTrue (allows wanted o)
  pub due : rem (bit_xor w (mask_of flips)) ≡ word o

-- these flips turn w and weigh at most `top`, and all others that turn w weigh at least `margin` more
pub record IsNearest (w x : ℕ) (wanted : Wanted) (confidences : List ℕ) (margin : ℕ) (o : Offset) (flips : ℕ) : Type 0 where
  pub turns : Turns w x wanted o flips
  pub near : weight confidences flips ≤ top
  pub alone : (p : Offset) (others : ℕ) → Turns w x wanted p others → others ≢ flips
      → weight confidences flips + margin ≤ weight confidences others

-- the correction of the window w as block x, if it is not valid: the nearest block, or none if no block is
abbrev pub IsCorrection : ℕ → ℕ → Wanted → List ℕ → ℕ → Option Correction → Type 0
IsCorrection w x wanted confidences margin (Some found) =
    IsNearest w x wanted confidences margin found.offset found.flips
IsCorrection w x wanted confidences margin None =
    (o : Offset) (flips : ℕ) → IsNearest w x wanted confidences margin o flips → ⊥
