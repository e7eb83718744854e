-- How the 27 symbols of a window are read as a block: this project's rule. `Search::read` returns the reading.
use Rattle.std.specs.Prelude.{◌≡◌, ℕ, ◌+◌, ◌-◌, List, map, length, slice_index_or, bit_xor, min, ℤ, pos, unsigned_abs, if◌then◌else◌}
use Rattle.std.specs.{List.range_with_len, Int.is_positive, Int.Digits.number_from_digits}
use Rattle.rds_code.specs.{declared.offset.Offset.Offset, declared.reading.Wanted.Wanted, Reading.IsValid, Reading.information}
use Rattle.rds_soft.specs.{declared.soft_reading.SoftReading.SoftReading, declared.soft_reading.SoftReading.TheVariants.Valid, declared.soft_reading.SoftReading.TheVariants.Corrected, declared.soft_reading.SoftReading.TheVariants.Lost, Nearest.mask_of, Nearest.IsNearest}

-- a symbol is a signed byte: its sign decides the bits, its size is how sure that sign is
abbrev pub sign : ℤ → ℕ
sign symbol = if is_positive symbol then 1 else 0

abbrev pub confidence : ℤ → ℕ
confidence symbol = min (unsigned_abs symbol) 127

abbrev pub confidences : List ℤ → List ℕ
confidences symbols = map confidence symbols

-- the bit between symbols i and i + 1: 1 if their signs differ
abbrev pub hard_bit : List ℤ → ℕ → ℕ
hard_bit symbols i = bit_xor (sign (slice_index_or symbols i (pos 0))) (sign (slice_index_or symbols (i + 1) (pos 0)))

-- the bits of symbols: one fewer than these
abbrev pub hard_bits : List ℤ → List ℕ
hard_bits symbols = map (hard_bit symbols) (range_with_len 0 (length symbols - 1))

-- the window of 27 symbols: the number whose binary digits are their bits
abbrev pub hard_window : List ℤ → ℕ
hard_window symbols = number_from_digits 2 (hard_bits symbols)

-- 27 symbols are read as block x: valid as their window is, else corrected if a block is nearest, else lost, that is,
-- uncorrectable
abbrev pub IsSoftReading : List ℤ → ℕ → Wanted → ℕ → SoftReading → Type 0
IsSoftReading symbols x wanted margin (Valid o info) =
    IsValid (hard_window symbols) x o × (info ≡ information (hard_window symbols))
IsSoftReading symbols x wanted margin (Corrected o info flips) = ((p : Offset) → IsValid (hard_window symbols) x p → ⊥)
    × IsNearest (hard_window symbols) x wanted (confidences symbols) margin o flips
    × (info ≡ information (bit_xor (hard_window symbols) (mask_of flips)))
IsSoftReading symbols x wanted margin Lost = ((p : Offset) → IsValid (hard_window symbols) x p → ⊥)
    × ((o : Offset) (flips : ℕ) → IsNearest (hard_window symbols) x wanted (confidences symbols) margin o flips → ⊥)
