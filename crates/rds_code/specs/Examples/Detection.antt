-- Worked examples: damage that is detected, damage that is not, and miscorrections. Blocks 1 and 4 here carry the information word 0.
use Rattle.std.specs.{Prelude.◌≡◌, Prelude.[], Prelude.◌∷◌, Prelude.map, Prelude.length, Prelude.refl, Prelude.bit_xor, Prelude.true, Prelude.false, List.range_with_len, Int.Count.count_leading_zeros, Int.Count.count_trailing_zeros}
use Rattle.rds_code.specs.{declared.offset.Offset.TheVariants.A, declared.offset.Offset.TheVariants.C, declared.offset.Offset.TheVariants.Cx, declared.offset.Offset.TheVariants.D, declared.reading.Wanted.TheVariants.Either, declared.reading.Wanted.TheVariants.OnlyC, declared.reading.Reading.TheVariants.Valid, declared.reading.Reading.TheVariants.Corrected, declared.reading.Reading.TheVariants.Lost, Remainder.generator, Remainder.rem, Offsets.word, Bursts.burst_length, Reading.reading, Detection.remainders_near, Detection.error_masks, Detection.is_miscorrection}

-- One bit error makes a valid block 3 of this block 4. So a block is detected as damaged by its own block number only.
pub one_bit_from_d_to_c : reading (bit_xor (word D) 0x0040000) 3 OnlyC 0 ≡ Valid C 0x0100
unfolding rem
one_bit_from_d_to_c = refl

-- As block 4 it is uncorrectable with limit 0, and corrected with limit 1.
pub the_same_as_block_4 : map (reading (bit_xor (word D) 0x0040000) 4 Either) (0 ∷ 1 ∷ [])
    ≡ Lost ∷ Corrected D 0 0x0040000 ∷ []
unfolding rem
the_same_as_block_4 = refl

-- A burst of eleven bits is not detected: the generator.
pub eleven_bits : burst_length generator ≡ 11
unfolding count_leading_zeros count_trailing_zeros
eleven_bits = refl

pub eleven_bits_unseen : reading (bit_xor (word A) generator) 1 Either 5 ≡ Valid A 1
unfolding rem
eleven_bits_unseen = refl

-- Nor are these three bit errors.
pub three_bits_unseen : reading (bit_xor (word A) 0x0080401) 1 Either 5 ≡ Valid A 0x0201
unfolding rem
three_bits_unseen = refl

-- Two of them are detected. With limit 1 they are miscorrected: the third is taken for the error.
pub two_bits_miscorrected : map (reading (bit_xor (word A) 0x0000401) 1 Either) (0 ∷ 1 ∷ [])
    ≡ Lost ∷ Corrected A 0x0201 0x0080000 ∷ []
unfolding rem
two_bits_miscorrected = refl

-- Another information word is a miscorrection, and so is the other version's offset word.
pub miscorrections_of_block_3 : map (is_miscorrection C 0)
    (Corrected C 0x0201 1 ∷ Corrected Cx 0 1 ∷ Corrected C 0 1 ∷ Valid C 1 ∷ Lost ∷ [])
    ≡ true ∷ true ∷ false ∷ false ∷ false ∷ []
miscorrections_of_block_3 = refl

-- The masks of two errors among three bits, and how many there are in a block, of one error to four.
pub two_of_three : error_masks 2 3 ≡ 3 ∷ 5 ∷ 6 ∷ []
two_of_three = refl

pub masks_in_a_block : map (λ n. length (error_masks n 26)) (1 ∷ 2 ∷ 3 ∷ 4 ∷ [])
    ≡ 26 ∷ 325 ∷ 2600 ∷ 14950 ∷ []
masks_in_a_block = refl

-- How many remainders are corrected, by limit from 0 to 5.
pub near : map (λ limit. length (remainders_near A limit)) (range_with_len 0 6)
    ≡ 0 ∷ 26 ∷ 51 ∷ 99 ∷ 191 ∷ 367 ∷ []
near = refl
