-- Worked examples: flips, and which of them are nearest.
use Rattle.std.{specs.Prelude.◌≡◌, specs.Prelude.◌≢◌, specs.Prelude.ℕ, specs.Prelude.◌+◌, specs.Prelude.◌≤◌, specs.Prelude.List, specs.Prelude.[], specs.Prelude.◌∷◌, specs.Prelude.refl, specs.Prelude.bit_xor, proofs.Common.arith, proofs.Common.lit<, proofs.lemmas.Bool.false≢true}
use Rattle.rds_code.specs.{declared.offset.Offset.TheVariants.C, declared.offset.Offset.TheVariants.Cx, declared.offset.Offset.TheVariants.D, declared.reading.Wanted.TheVariants.OnlyC, declared.reading.Wanted.TheVariants.Either, Remainder.rem, Offsets.word}
use Rattle.rds_soft.specs.Nearest.{mask_of, weight, top, Turns, IsNearest}

-- ---- the bits that flips invert

-- one flip inverts two bits, but that of the last symbol only the last bit, and that of the first only the first
pub one_flip : mask_of 0x0000010 ≡ 0x0000018
one_flip = refl

pub last_flip : mask_of 1 ≡ 1
last_flip = refl

pub first_flip : mask_of 0x4000000 ≡ 0x2000000
first_flip = refl

-- two flips side by side invert the bits around them; all 27 invert nothing
pub two_flips : mask_of 0x0000030 ≡ 0x0000028
two_flips = refl

pub all_flips : mask_of 0x7FFFFFF ≡ 0
all_flips = refl

-- ---- block 4 whose information word is 0, sent as its offset word. Flips of the symbols at places 20, 11 and 1 from the last
-- make another valid block 4 of it. So one of the three received wrong has the other two as rival.

abbrev pub damaged : ℕ
damaged = bit_xor (word D) (mask_of 0x0000800)

-- the confidences of the three, where all others have 127
abbrev pub three : ℕ → ℕ → ℕ → List ℕ
three a b c =
    127 ∷ 127 ∷ 127 ∷ 127 ∷ 127 ∷ 127 ∷ a ∷ 127 ∷ 127 ∷ 127 ∷ 127 ∷ 127 ∷ 127 ∷ 127 ∷ 127 ∷ b ∷ 127 ∷ 127
    ∷ 127 ∷ 127 ∷ 127 ∷ 127 ∷ 127 ∷ 127 ∷ 127 ∷ c ∷ 127 ∷ []

pub one_turns : Turns damaged 4 Either D 0x0000800
unfolding rem
one_turns = record { symbols = lit< tt; own = refl; allowed = refl; due = refl }

pub two_turn : Turns damaged 4 Either D 0x0100002
unfolding rem
two_turn = record { symbols = lit< tt; own = refl; allowed = refl; due = refl }

abbrev rival : ℕ
rival = 0x0100002

two_not_one : rival ≢ 0x0000800
two_not_one same = absurd (omega (arith, same))

-- of the same weight, neither is nearest
pub tie : IsNearest damaged 4 Either (three 32 40 8) 1 D 0x0000800 → ⊥
tie h =
    let one : weight (three 32 40 8) 0x0000800 ≡ 40 = refl in
    let two : weight (three 32 40 8) 0x0100002 ≡ 40 = refl in
    let apart : weight (three 32 40 8) 0x0000800 + 1 ≤ weight (three 32 40 8) 0x0100002 = h.alone D 0x0100002 two_turn two_not_one in
    omega (arith, one, two, apart)

-- a rival that weighs 31 more is within a margin of 32; one that weighs 32 more is not
pub margin_missed : IsNearest damaged 4 Either (three 31 8 8) 32 D 0x0000800 → ⊥
margin_missed h =
    let one : weight (three 31 8 8) 0x0000800 ≡ 8 = refl in
    let two : weight (three 31 8 8) 0x0100002 ≡ 39 = refl in
    let apart : weight (three 31 8 8) 0x0000800 + 32 ≤ weight (three 31 8 8) 0x0100002 = h.alone D 0x0100002 two_turn two_not_one in
    omega (arith, one, two, apart)

pub margin_met : weight (three 32 8 8) 0x0100002 ≡ weight (three 32 8 8) 0x0000800 + 32
margin_met = refl

-- flips may weigh 127, and no more
pub top_met : weight (three 120 127 7) 0x0100002 ≡ top
top_met = refl

pub top_passed : IsNearest damaged 4 Either (three 120 127 8) 1 D 0x0100002 → ⊥
top_passed h =
    let two : weight (three 120 127 8) 0x0100002 ≡ 128 = refl in
    omega (arith, two, h.near)

-- an erased symbol weighs nothing
pub erasure : weight (three 32 0 8) 0x0000800 ≡ 0
erasure = refl

-- the first symbol of the window alone: one bit
pub first_symbol : Turns (bit_xor (word D) 0x2000000) 4 Either D 0x4000000
unfolding rem
first_symbol = record { symbols = lit< tt; own = refl; allowed = refl; due = refl }

-- ---- block 3: one flip makes it one of version A, two make it one of version B

abbrev pub third : ℕ
third = bit_xor (word C) (mask_of 0x0000400)

pub third_with_C : Turns third 3 Either C 0x0000400
unfolding rem
third_with_C = record { symbols = lit< tt; own = refl; allowed = refl; due = refl }

pub third_with_Cx : Turns third 3 Either Cx 0x0000101
unfolding rem
third_with_Cx = record { symbols = lit< tt; own = refl; allowed = refl; due = refl }

-- if only C is wanted, C' is no rival
pub only_C_wanted : Turns third 3 OnlyC Cx 0x0000101 → ⊥
only_C_wanted h = false≢true h.allowed
