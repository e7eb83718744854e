-- The group of four zero words, sent once, twice and five times: its windows, computed. Some that end inside a block are valid too.
use Rattle.std.specs.Prelude.{◌≡◌, ℕ, List, [], ◌∷◌, ◌++◌, map, true, false, refl, zero, suc, ◌<◌, ◌≤◌}
use Rattle.std.{proofs.Common.arith, specs.List.range_with_len, specs.List.All, specs.List.AllAdjacentBelow}
use Rattle.rds_code.specs.{Remainder.rem, Examples.ZeroGroup.window_at, declared.offset.Offset.TheVariants.A, declared.offset.Offset.TheVariants.B, declared.offset.Offset.TheVariants.C, declared.offset.Offset.TheVariants.D}
use Rattle.rds_stream.specs.Recording.{Signal, AreGaps, bits_of, ungapped, window, touched, heard, offset_at, valid_windows}

abbrev pub zero_group : List ℕ
zero_group = 0x00 ∷ 0x00 ∷ 0x3F ∷ 0x00 ∷ 0x00 ∷ 0x19 ∷ 0x80 ∷ 0x00 ∷ 0x05 ∷ 0xA0 ∷ 0x00 ∷ 0x01 ∷ 0xB4 ∷ []

abbrev pub once : Signal
once = ungapped (bits_of zero_group 104)

abbrev pub twice : Signal
twice = ungapped (bits_of (zero_group ++ zero_group) 208)

-- the windows are those of which `rds_code` gives the remainders, at each place that has one
pub windows : map (window twice.bits) (range_with_len 25 183) ≡ map window_at (range_with_len 25 183)
unfolding window
windows = refl

pub once_valid : valid_windows once 0 104 ≡ (25, A) ∷ (51, B) ∷ (77, C) ∷ (96, B) ∷ (103, D) ∷ []
unfolding rem window touched heard offset_at
once_valid = refl

pub twice_valid : valid_windows twice 0 208 ≡
    (25, A) ∷ (51, B) ∷ (77, C) ∷ (96, B) ∷ (103, D) ∷ (123, B) ∷ (129, A) ∷ (155, B) ∷ (181, C) ∷ (200, B)
    ∷ (207, D) ∷ []
unfolding rem window touched heard offset_at
twice_valid = refl

-- sent five times: a word of 64 places begins at another place of each group
abbrev pub five_times : Signal
five_times = ungapped (bits_of (zero_group ++ zero_group ++ zero_group ++ zero_group ++ zero_group) 520)

pub five_valid : valid_windows five_times 0 520 ≡
    (25, A) ∷ (51, B) ∷ (77, C) ∷ (96, B) ∷ (103, D) ∷ (123, B) ∷ (129, A) ∷ (155, B) ∷ (181, C) ∷ (200, B)
    ∷ (207, D) ∷
    (227, B) ∷ (233, A) ∷ (259, B) ∷ (285, C) ∷ (304, B) ∷ (311, D) ∷ (331, B) ∷ (337, A) ∷ (363, B)
    ∷ (389, C) ∷ (408, B) ∷ (415, D) ∷
    (435, B) ∷ (441, A) ∷ (467, B) ∷ (493, C) ∷ (512, B) ∷ (519, D) ∷ []
unfolding rem window touched heard offset_at
five_valid = refl

-- one place, the places before the first window, and no place
pub one_place : valid_windows once 96 97 ≡ (96, B) ∷ []
unfolding rem window touched heard offset_at
one_place = refl

pub place_129 : valid_windows twice 129 130 ≡ (129, A) ∷ []
unfolding rem window touched heard offset_at
place_129 = refl

pub first_places : valid_windows once 0 25 ≡ []
unfolding rem window touched heard offset_at
first_places = refl

pub no_place : valid_windows once 104 104 ≡ []
no_place = refl

-- sent twice, with a gap at one place: the windows that touch it are left out, and no others
abbrev pub with_gap : Signal
with_gap = record { bits = twice.bits; gaps = (104, 105) ∷ [] }

pub gap_valid : valid_windows with_gap 0 208 ≡
    (25, A) ∷ (51, B) ∷ (77, C) ∷ (96, B) ∷ (103, D) ∷ (155, B) ∷ (181, C) ∷ (200, B) ∷ (207, D) ∷ []
unfolding rem window touched heard offset_at
gap_valid = refl

-- a window touches a gap from its first place on to the 25th after its last
pub around_gap : map (touched with_gap) (103 ∷ 104 ∷ 129 ∷ 130 ∷ []) ≡ false ∷ true ∷ true ∷ false ∷ []
unfolding touched
around_gap = refl

-- a range inside a gap has no window that is heard
pub all_gap : valid_windows (record { bits = once.bits; gaps = (0, 104) ∷ [] }) 0 104 ≡ []
unfolding rem window touched heard offset_at
all_gap = refl

-- gaps may be adjacent
abbrev pub two_gaps : List (ℕ × ℕ)
two_gaps = (10, 20) ∷ (20, 30) ∷ []

some_places : All (λ gap. (gap.0 < gap.1) × (gap.1 ≤ 104)) two_gaps
some_places zero d within = (omega arith, omega arith)
some_places (suc zero) d within = (omega arith, omega arith)
some_places (suc (suc k)) d within = absurd (omega (arith, within))

in_order : AllAdjacentBelow (λ gap next. gap.1 ≤ next.0) two_gaps 2
in_order zero d within = omega arith
in_order (suc k) d within = absurd (omega (arith, within))

pub side_by_side : AreGaps 104 two_gaps
side_by_side = record { each = some_places; apart = in_order }

-- none may be empty, begin inside the one before, or go past the bits
pub empty_gap : AreGaps 104 ((5, 5) ∷ []) → ⊥
empty_gap gaps = absurd (omega (arith, gaps.each 0 (0, 0) (omega arith)))

pub inside_another : AreGaps 104 ((10, 20) ∷ (15, 30) ∷ []) → ⊥
inside_another gaps = absurd (omega (arith, gaps.apart 0 (0, 0) (omega arith)))

pub past_bits : AreGaps 104 ((100, 105) ∷ []) → ⊥
past_bits gaps = absurd (omega (arith, gaps.each 0 (0, 0) (omega arith)))
