-- Laws of correction (EN 50067:1998, Annex B: one burst of up to 5 bits can be corrected). The limit and the offsets
-- wanted for block 3 are this project's rules. The law `blocks_are_read_as_sent` has `ReadsAsSent`;
-- `damaged_blocks_are_corrected` has the others.
use Rattle.std.specs.Prelude.{◌≡◌, ◌≢◌, ℕ, ◌≤◌, bit_xor, ◌↔◌}
use Rattle.rds_code.specs.{declared.offset.Offset.Offset, declared.offset.Offset.TheVariants.C, declared.offset.Offset.TheVariants.Cx, declared.reading.Wanted.Wanted, declared.reading.Wanted.TheVariants.OnlyC, declared.reading.Wanted.TheVariants.OnlyCx, declared.reading.Wanted.TheVariants.Either, declared.reading.Reading.TheVariants.Valid, declared.reading.Reading.TheVariants.Corrected, Offsets.number, Bursts.IsBurst, Reading.IsValid, Reading.reading, Encoding.IsBlockOf}

-- the offsets allowed if only this one is to be tried; for A, B and D they have no effect
abbrev pub alone : Offset → Wanted
alone C = OnlyC
alone Cx = OnlyCx
alone o = Either

-- the other offset of block 3: C' for C, and C for C'
abbrev pub other_third_offset : Offset → Offset
other_third_offset C = Cx
other_third_offset o = C

-- the burst that turns block 3 of one version into a valid block 3 of the other: its remainder is C xor C'
abbrev pub version_burst : ℕ
version_burst = 0x1900000

-- a block as it was sent is valid, with its own offset and information word
abbrev pub ReadsAsSent : Type 0
ReadsAsSent = (w info : ℕ) (o : Offset) (wanted : Wanted) (limit : ℕ) → IsBlockOf w info o
    → reading w (number o) wanted limit ≡ Valid o info

-- block 1, 2 or 4 with one burst within the limit is corrected: the reading has its information word and the burst
abbrev pub CorrectsBurst : Type 0
CorrectsBurst = (w info : ℕ) (o : Offset) (wanted : Wanted) (limit e : ℕ) → IsBlockOf w info o → number o ≢ 3
    → limit ≤ 5 → IsBurst limit e
    → reading (bit_xor w e) (number o) wanted limit ≡ Corrected o info e

-- block 3 with one burst within the limit is corrected if only its own offset is wanted, except with `version_burst`
abbrev pub CorrectsThird : Type 0
CorrectsThird = (w info : ℕ) (o : Offset) (limit e : ℕ) → IsBlockOf w info o → number o ≡ 3 → limit ≤ 5
    → IsBurst limit e → e ≢ version_burst
    → reading (bit_xor w e) 3 (alone o) limit ≡ Corrected o info e

-- `version_burst`, and no other burst of up to five bits, turns block 3 into a valid block 3 of the other version
abbrev pub TakesOtherVersion : Type 0
TakesOtherVersion = (w info : ℕ) (o : Offset) (e : ℕ) → IsBlockOf w info o → number o ≡ 3 → IsBurst 5 e
    → IsValid (bit_xor w e) 3 (other_third_offset o) ↔ (e ≡ version_burst)
