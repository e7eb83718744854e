-- Blocks and groups as they are sent (EN 50067:1998, sections 2.1 and 2.3; block 3 by the version bit, section 3.1.2).
-- `encode_block` and `encode_group` answer them.
use Rattle.std.specs.Prelude.{◌≡◌, ℕ, zero, suc, ◌+◌, ◌*◌, ◌^◌, ◌<◌, List, [], ◌∷◌, length, slice_index, bit_xor}
use Rattle.std.specs.Int.{bit_at}
use Rattle.rds_code.specs.{declared.offset.Offset.Offset, declared.offset.Offset.TheVariants.A, declared.offset.Offset.TheVariants.B, declared.offset.Offset.TheVariants.C, declared.offset.Offset.TheVariants.Cx, declared.offset.Offset.TheVariants.D, Remainder.rem, Offsets.word, Reading.information}

-- w is the block with information word info and offset o: its upper 16 bits are info, its remainder is the offset word
pub record IsBlockOf (w info : ℕ) (o : Offset) : Type 0 where
  pub is_block : w < 2 ^ 26
  pub above : information w ≡ info
  pub remainder : rem w ≡ word o

-- the offset of block 3, by the version bit
abbrev pub offset_by_version : ℕ → Offset
offset_by_version zero = C
offset_by_version (suc bit) = Cx

-- the offset of block 3, by the information word of block 2, whose bit 11 is the version bit
abbrev pub third_offset : ℕ → Offset
third_offset second = offset_by_version (bit_at second 11)

-- the blocks carry the four words of a group
pub record IsGroupOf (blocks words : List ℕ) : Type 0 where
  pub four : length blocks ≡ 4
  pub first : IsBlockOf (slice_index blocks 0) (slice_index words 0) A
  pub second : IsBlockOf (slice_index blocks 1) (slice_index words 1) B
  pub third : IsBlockOf (slice_index blocks 2) (slice_index words 2) (third_offset (slice_index words 1))
  pub fourth : IsBlockOf (slice_index blocks 3) (slice_index words 3) D

-- ---- the same, computed

-- the information word, then the checkword: the remainder of info * 2^10, xor the offset word (2.3 and Annex B)
abbrev pub encoded : ℕ → Offset → ℕ
encoded info o = info * 2 ^ 10 + bit_xor (rem (info * 2 ^ 10)) (word o)

abbrev pub encoded_group : List ℕ → List ℕ
encoded_group words =
    encoded (slice_index words 0) A
    ∷ encoded (slice_index words 1) B
    ∷ encoded (slice_index words 2) (third_offset (slice_index words 1))
    ∷ encoded (slice_index words 3) D
    ∷ []
