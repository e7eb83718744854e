-- Worked examples: damaged blocks of the group whose information words are 0, and how they are read.
use Rattle.std.specs.Prelude.{◌≡◌, ℕ, ◌*◌, ◌==◌, List, [], ◌∷◌, map, filter, refl, bit_xor}
use Rattle.rds_code.specs.{declared.offset.Offset.TheVariants.A, declared.offset.Offset.TheVariants.B, declared.offset.Offset.TheVariants.C, declared.offset.Offset.TheVariants.Cx, declared.offset.Offset.TheVariants.D, declared.reading.Wanted.TheVariants.OnlyC, declared.reading.Wanted.TheVariants.Either, declared.reading.Reading.TheVariants.Valid, declared.reading.Reading.TheVariants.Corrected, declared.reading.Reading.TheVariants.Lost, Remainder.rem, Offsets.word, Bursts.bursts, Reading.reading, Correction.version_burst}

-- the remainders of damaged blocks 3, 4, 4, 1, 2 and 3
pub remainders : map rem (bit_xor (word C) 0x0008000 ∷ bit_xor (word D) 0x0000011 ∷ bit_xor (word D) 0x0000021
    ∷ bit_xor (word A) 0x0000021 ∷ bit_xor (word B) 0x0000021 ∷ bit_xor (word C) 0x0000038 ∷ [])
    ≡ 0x3AF ∷ 0x1A5 ∷ 0x195 ∷ 0x0DD ∷ 0x1B9 ∷ 0x150 ∷ []
unfolding rem
remainders = refl

-- one bit of block 3
pub one_bit : reading (bit_xor (word C) 0x0008000) 3 OnlyC 2 ≡ Corrected C 0 0x0008000
unfolding rem
one_bit = refl

-- a burst of five bits, at the limit and past it
pub five_bits : reading (bit_xor (word D) 0x0000011) 4 Either 5 ≡ Corrected D 0 0x0000011
unfolding rem
five_bits = refl

pub past_the_limit : reading (bit_xor (word D) 0x0000011) 4 Either 4 ≡ Lost
unfolding rem
past_the_limit = refl

-- two ones six places apart are no burst of up to five bits, and no burst has their remainder
pub two_apart : reading (bit_xor (word D) 0x0000021) 4 Either 5 ≡ Lost
unfolding rem
two_apart = refl

pub two_apart_in_first : reading (bit_xor (word A) 0x0000021) 1 Either 5 ≡ Lost
unfolding rem
two_apart_in_first = refl

pub two_apart_in_second : reading (bit_xor (word B) 0x0000021) 2 Either 5 ≡ Lost
unfolding rem
two_apart_in_second = refl

pub no_burst_leaves_0x021 : filter (λ e. rem e == 0x021) (bursts 5) ≡ []
unfolding rem
no_burst_leaves_0x021 = refl

-- 0x021 divided by x once, twice and so on up to 25 times, modulo the generator: none of these is an odd pattern of up to five bits
abbrev pub quotients : List ℕ
quotients =
    0x2CC ∷ 0x166 ∷ 0x0B3 ∷ 0x285 ∷ 0x39E ∷ 0x1CF ∷ 0x23B ∷ 0x3C1 ∷ 0x33C ∷ 0x19E ∷ 0x0CF ∷ 0x2BB ∷ 0x381
    ∷ 0x31C ∷ 0x18E ∷ 0x0C7 ∷ 0x2BF ∷ 0x383 ∷ 0x31D ∷ 0x352 ∷ 0x1A9 ∷ 0x208 ∷ 0x104 ∷ 0x082
    ∷ 0x041 ∷ []

pub times_x : map (λ n. rem (2 * n)) quotients
    ≡ 0x021 ∷ 0x2CC ∷ 0x166 ∷ 0x0B3 ∷ 0x285 ∷ 0x39E ∷ 0x1CF ∷ 0x23B ∷ 0x3C1 ∷ 0x33C ∷ 0x19E ∷ 0x0CF ∷ 0x2BB
    ∷ 0x381 ∷ 0x31C ∷ 0x18E ∷ 0x0C7 ∷ 0x2BF ∷ 0x383 ∷ 0x31D ∷ 0x352 ∷ 0x1A9 ∷ 0x208 ∷ 0x104 ∷ 0x082 ∷ []
unfolding rem
times_x = refl

-- block 3 if both of its offsets are wanted: with limit 3 a burst fits each of them, with limit 2 one fits
-- only C'
pub both_fit : reading (bit_xor (word C) 0x0000038) 3 Either 3 ≡ Lost
unfolding rem
both_fit = refl

pub one_fits : reading (bit_xor (word C) 0x0000038) 3 Either 2 ≡ Corrected Cx 0 0x0000200
unfolding rem
one_fits = refl

-- the burst that makes of a block 3 of version A a valid one of version B
pub other_version : reading (bit_xor (word C) version_burst) 3 OnlyC 5 ≡ Valid Cx 0x6400
unfolding rem
other_version = refl
