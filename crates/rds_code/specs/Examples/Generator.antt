-- Worked examples: the generator's mirror and powers of x, and the standard's syndromes.
use Rattle.std.specs.{Prelude.◌≡◌, Prelude.◌-◌, Prelude.[], Prelude.◌∷◌, Prelude.map, Prelude.length, Prelude.refl, Int.bit_at, List.range_with_len}
use Rattle.rds_code.specs.{Remainder.generator, Offsets.word, Offsets.all_offsets, Generator.times_x, Generator.times_power, Generator.remainder_by, Generator.mirror, Generator.parity_rows, Generator.syndrome}

-- the mirror has the generator's coefficients in reverse order
pub mirrored : map (λ i. bit_at mirror i) (range_with_len 0 11) ≡ map (λ i. bit_at generator (10 - i)) (range_with_len 0 11)
mirrored = refl

-- x^10 by the generator, and the power by which Annex B multiplies: x^9 + x^8 + x^4 + x^3 + x + 1
pub powers : times_x generator 0x200 ∷ times_power generator 325 1 ∷ [] ≡ 0x1B9 ∷ 0x31B ∷ []
unfolding times_power
powers = refl

-- 341 is 11 times 31; the powers of x between
pub no_earlier : map (λ t. times_power generator t 1) (11 ∷ 31 ∷ 341 ∷ []) ≡ 0x372 ∷ 0x056 ∷ 1 ∷ []
unfolding times_power
no_earlier = refl

-- by 0x523 all bursts are told apart, but x^341 is not 1; by 0x40F two bursts have one remainder
pub other_period : times_power 0x523 341 1 ≡ 0x036
unfolding times_power
other_period = refl

pub not_told : map (remainder_by 0x40F 26) (0x000000B ∷ 0x1400000 ∷ []) ≡ 0x00B ∷ 0x00B ∷ []
unfolding remainder_by
not_told = refl

-- a row for each bit
pub rows : length parity_rows ≡ 26
rows = refl

-- the syndromes of blocks with offsets A, B, C, C' and D whose information word is 0, as Annex B prints them
pub syndromes : map (λ o. syndrome parity_rows (word o)) all_offsets ≡ 0x3D8 ∷ 0x3D4 ∷ 0x25C ∷ 0x3CC ∷ 0x258 ∷ []
unfolding syndrome
syndromes = refl
