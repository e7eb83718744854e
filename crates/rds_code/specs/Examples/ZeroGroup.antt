-- Worked example: the group whose four information words are 0, sent again and again. The valid windows end at its four blocks, and at two places inside blocks, both with offset B.
use Rattle.std.specs.Prelude.{◌≡◌, ℕ, ◌+◌, ◌-◌, ◌*◌, ◌/◌, ◌%◌, ◌^◌, [], ◌∷◌, Option, Some, None, map, refl, bit_xor}
use Rattle.std.specs.List.{range_with_len, filter_map}
use Rattle.rds_code.specs.{declared.offset.Offset.Offset, declared.offset.Offset.TheVariants.A, declared.offset.Offset.TheVariants.B, declared.offset.Offset.TheVariants.C, declared.offset.Offset.TheVariants.D, Remainder.rem, Offsets.word, Offsets.offset_of, Encoding.encoded_group}

-- the bits of one group: its information words are 0, so its checkwords are the offset words
abbrev pub one_group : ℕ
one_group = ((word A * 2 ^ 26 + word B) * 2 ^ 26 + word C) * 2 ^ 26 + word D

-- three groups in a row, first bit highest
abbrev pub three_groups : ℕ
three_groups = (one_group * 2 ^ 104 + one_group) * 2 ^ 104 + one_group

-- the window whose last bit is at place i
abbrev pub window_at : ℕ → ℕ
window_at i = three_groups / 2 ^ (311 - i) % 2 ^ 26

-- the blocks of the group are its offset words
pub blocks : encoded_group (0 ∷ 0 ∷ 0 ∷ 0 ∷ []) ≡ 0x00000FC ∷ 0x0000198 ∷ 0x0000168 ∷ 0x00001B4 ∷ []
unfolding rem
blocks = refl

-- the remainders of the windows from place 25 on; they come again after 104 places
pub remainders : map (λ i. rem (window_at i)) (range_with_len 25 105)
    ≡ 0x0FC ∷ 0x1F8 ∷ 0x3F0 ∷ 0x259 ∷ 0x10B
    ∷ 0x216 ∷ 0x195 ∷ 0x32A ∷ 0x3ED ∷ 0x263 ∷ 0x17F ∷ 0x2FE ∷ 0x045 ∷ 0x08A ∷ 0x114
    ∷ 0x228 ∷ 0x1E9 ∷ 0x3D2 ∷ 0x21C ∷ 0x16E ∷ 0x232 ∷ 0x133 ∷ 0x289 ∷ 0x044 ∷ 0x066
    ∷ 0x0CC ∷ 0x198 ∷ 0x330 ∷ 0x3D9 ∷ 0x20B ∷ 0x1AF ∷ 0x35E ∷ 0x305 ∷ 0x3B3 ∷ 0x2DF
    ∷ 0x007 ∷ 0x00E ∷ 0x01C ∷ 0x038 ∷ 0x070 ∷ 0x0E0 ∷ 0x1C0 ∷ 0x380 ∷ 0x2B9 ∷ 0x024
    ∷ 0x0A6 ∷ 0x14D ∷ 0x29B ∷ 0x061 ∷ 0x02D ∷ 0x05A ∷ 0x0B4 ∷ 0x168 ∷ 0x2D0 ∷ 0x019
    ∷ 0x032 ∷ 0x064 ∷ 0x0C8 ∷ 0x190 ∷ 0x320 ∷ 0x3F9 ∷ 0x24B ∷ 0x12F ∷ 0x25E ∷ 0x105
    ∷ 0x20A ∷ 0x1AD ∷ 0x35A ∷ 0x30D ∷ 0x3A3 ∷ 0x210 ∷ 0x198 ∷ 0x3DE ∷ 0x2EA ∷ 0x06C
    ∷ 0x036 ∷ 0x06D ∷ 0x0DA ∷ 0x1B4 ∷ 0x368 ∷ 0x369 ∷ 0x36B ∷ 0x36F ∷ 0x367 ∷ 0x377
    ∷ 0x357 ∷ 0x317 ∷ 0x397 ∷ 0x297 ∷ 0x097 ∷ 0x12E ∷ 0x25C ∷ 0x101 ∷ 0x202 ∷ 0x1BD
    ∷ 0x37A ∷ 0x3A3 ∷ 0x210 ∷ 0x198 ∷ 0x3DF ∷ 0x2E8 ∷ 0x068 ∷ 0x03F ∷ 0x07E ∷ 0x0FC ∷ []
unfolding rem
remainders = refl

-- the second group ends 104 places after the first, and the windows that end in it have the remainders of those
pub again : map (λ i. rem (window_at i)) (range_with_len 130 78)
    ≡ map (λ i. rem (window_at (i - 104))) (range_with_len 130 78)
unfolding rem
again = refl

-- a place with its offset, if it has one
abbrev pub valid_at : ℕ → Option (ℕ × Offset)
valid_at i = elim (offset_of (rem (window_at i))) [ None ↦ None | Some o ↦ Some (i, o) ]

-- the valid windows that end in the second group
pub valid_windows : filter_map valid_at (range_with_len 104 104)
    ≡ (123, B) ∷ (129, A) ∷ (155, B) ∷ (181, C) ∷ (200, B) ∷ (207, D) ∷ []
unfolding rem
valid_windows = refl

-- block 1 of the second group damaged at places 124 and 129: no window is valid again before place 155
abbrev pub damaged_at : ℕ → ℕ
damaged_at i = bit_xor three_groups (2 ^ (311 - 124) + 2 ^ (311 - 129)) / 2 ^ (311 - i) % 2 ^ 26

pub damaged_130 : map (λ i. rem (damaged_at i)) (range_with_len 130 26)
    ≡ 0x1BA ∷ 0x374 ∷ 0x351 ∷ 0x31B ∷ 0x38F ∷ 0x2A7 ∷ 0x0F7 ∷ 0x1EE ∷ 0x3DC ∷ 0x201 ∷ 0x1BB ∷ 0x376 ∷ 0x355
    ∷ 0x313 ∷ 0x39F ∷ 0x287 ∷ 0x0B7 ∷ 0x16F ∷ 0x231 ∷ 0x135 ∷ 0x26A ∷ 0x182 ∷ 0x3EB ∷ 0x281 ∷ 0x0BB ∷ 0x198
    ∷ []
unfolding rem
damaged_130 = refl
