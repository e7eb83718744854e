-- Worked examples: symbols, their bits, and how they are read.
use Rattle.std.specs.Prelude.{◌≡◌, ◌++◌, List, None, [], ◌∷◌, refl, bit_xor, replicate, ℤ, pos, negsuc}
use Rattle.rds_code.specs.{declared.offset.Offset.TheVariants.D, declared.reading.Wanted.TheVariants.Either, Offsets.word, Offsets.offset_of, Remainder.rem}
use Rattle.rds_soft.specs.{declared.soft_reading.SoftReading.TheVariants.Valid, Nearest.mask_of, Symbols.sign, Symbols.confidence, Symbols.hard_bits, Symbols.hard_window, Symbols.IsSoftReading}

-- ---- symbols

pub one_is_up : sign (pos 1) ≡ 1
one_is_up = refl

-- an erasure counts as not above 0
pub none_is_down : sign (pos 0) ≡ 0
none_is_down = refl

pub minus_one_is_down : sign (negsuc 0) ≡ 0
minus_one_is_down = refl

pub least_byte : confidence (negsuc 127) ≡ 127
least_byte = refl

pub most_sure : confidence (pos 127) ≡ 127
most_sure = refl

pub minus_five : confidence (negsuc 4) ≡ 5
minus_five = refl

pub erasure : confidence (pos 0) ≡ 0
erasure = refl

-- a bit is 1 where the sign changes; five symbols have four bits
pub bits_of_five : hard_bits (pos 90 ∷ pos 3 ∷ negsuc 8 ∷ negsuc 20 ∷ pos 1 ∷ []) ≡ 0 ∷ 1 ∷ 0 ∷ 1 ∷ []
bits_of_five = refl

-- which sign is the first does not matter
pub bits_of_inverted : hard_bits (negsuc 89 ∷ negsuc 2 ∷ pos 9 ∷ pos 21 ∷ negsuc 0 ∷ []) ≡ 0 ∷ 1 ∷ 0 ∷ 1 ∷ []
bits_of_inverted = refl

-- ---- block 4 whose information word is 0: its bits are those of its offset word

-- its symbols, all of one size but for that at place 8 from the last
abbrev pub symbols_with : ℤ → List ℤ
symbols_with symbol =
    replicate 18 (pos 100) ++ symbol ∷ pos 100 ∷ pos 100 ∷ negsuc 99 ∷ pos 100 ∷ pos 100 ∷ negsuc 99 ∷ negsuc 99 ∷ negsuc 99 ∷ []

pub as_sent : hard_window (symbols_with (negsuc 99)) ≡ word D
as_sent = refl

-- a valid window stays as it is, also if a symbol is hardly known
pub valid_if_unsure : IsSoftReading (symbols_with (negsuc 0)) 4 Either 32 (Valid D 0)
unfolding rem
valid_if_unsure = (record { offset = refl; own = refl }, refl)

-- one wrong symbol inverts two bits, those of the mask of its flip
pub one_wrong : hard_window (symbols_with (pos 7)) ≡ bit_xor (word D) (mask_of 0x0000100)
one_wrong = refl

pub its_remainder : offset_of (rem (hard_window (symbols_with (pos 7)))) ≡ None
unfolding rem
its_remainder = refl
