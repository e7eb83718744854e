-- Groups that were sent, as bits and bytes; recordings of them, without and with damage; sync that damage keeps, and sync that it loses.
use Rattle.std.specs.Prelude.{flat_map, ◌≡◌, ℕ, List, [], ◌∷◌, ◌++◌, true, refl, Some, None}
use Rattle.rds_sync.specs.Sent.{bits_sent, packed_groups, group_sent, items_sent, SentGroup, four_damages, items_damaged, bad_after_blocks, KeepLock, totals_sent, totals_damaged, masks_read, bits_with_damage}
use Rattle.rds_sync.specs.Examples.Words.{Signal, bits_of, ungapped, OA, OB, C, Cx, D, Item, Acquired, Group, LostLock, A, B, Unknown, computed, zero_groups, rules_of, default_rules, missing, valid, corrected, group_at, totals, row, AreReported}
use Rattle.rds_sync.specs.{declared.loss.Loss.TheVariants.Run, Loss.are_too_many}

-- ---- as bits and bytes

abbrev pub zeros : List ℕ
zeros = 0 ∷ 0 ∷ 0 ∷ 0 ∷ []

pub two_zero_groups : (bits_sent (zeros ∷ zeros ∷ []) ≡ bits_of (zero_groups 2) 208)
    × (packed_groups (zeros ∷ zeros ∷ []) ≡ zero_groups 2)
unfolding computed
two_zero_groups = (refl, refl)

-- a group 2A and a group 2B, whose block 3 has C'
abbrev pub first : List ℕ
first = 0x1234 ∷ 0x2540 ∷ 0x5244 ∷ 0x5320 ∷ []

abbrev pub second : List ℕ
second = 0x1234 ∷ 0x2D41 ∷ 0x1234 ∷ 0x4F4E ∷ []

abbrev pub sent : Signal
sent = ungapped (bits_sent (first ∷ second ∷ first ∷ []))

abbrev pub sent_items : List Item
sent_items =
    Acquired 51 2
    ∷ group_at 26 (Some 2) A missing (valid OB 0x2540) (valid C 0x5244) (valid D 0x5320)
    ∷ group_at 104 (Some 2) B (valid OA 0x1234) (valid OB 0x2D41) (valid Cx 0x1234) (valid D 0x4F4E)
    ∷ group_at 208 (Some 2) A (valid OA 0x1234) (valid OB 0x2540) (valid C 0x5244) (valid D 0x5320)
    ∷ []

-- ---- with damage

-- one bit error in block 3; then two adjacent ones in block 1, and one each in blocks 3 and 4
abbrev pub damaged_first : SentGroup
damaged_first = record { words = first; damages = 0 ∷ 0 ∷ 0x0000001 ∷ 0 ∷ [] }

abbrev pub damaged_second : SentGroup
damaged_second = record { words = second; damages = 0x0000030 ∷ 0 ∷ 0x0000008 ∷ 0x0000002 ∷ [] }

abbrev pub damaged : Signal
damaged = ungapped (flat_map bits_with_damage (damaged_first ∷ damaged_second ∷ []))

abbrev pub second_item : Item
second_item = group_at 104 (Some 2) B (corrected OA 0x1234 0x0000030) (valid OB 0x2D41)
    (corrected Cx 0x1234 0x0000008) (corrected D 0x4F4E 0x0000002)

abbrev pub damaged_items : List Item
damaged_items =
    Acquired 51 2
    ∷ group_at 26 (Some 2) A missing (valid OB 0x2540) (corrected C 0x5244 0x0000001) (valid D 0x5320)
    ∷ second_item
    ∷ []

-- at one bad block in a row sync is lost three times. It is acquired again by two valid blocks: blocks 2 and 4 of the first group, and then
-- block 4 of the first and block 2 of the second
abbrev pub items_of_losses : List Item
items_of_losses =
    Acquired 51 2
    ∷ group_at 26 (Some 2) A missing (valid OB 0x2540) (corrected C 0x5244 0x0000001) missing
    ∷ LostLock 77
    ∷ Acquired 103 4
    ∷ group_at 78 None Unknown missing missing missing (valid D 0x5320)
    ∷ group_at 104 None Unknown (corrected OA 0x1234 0x0000030) missing missing missing
    ∷ LostLock 129
    ∷ Acquired 155 2
    ∷ group_at 130 (Some 2) B missing (valid OB 0x2D41) (corrected Cx 0x1234 0x0000008) missing
    ∷ LostLock 181
    ∷ []

pub reports : AreReported (
    row sent default_rules sent_items (totals 11 0 0 0 0 0 0 0 3 2 1 0)
    ∷ row damaged default_rules damaged_items (totals 3 3 1 0 0 0 0 5 2 1 1 0)
    -- at two in a row it is lost, at the last block
    ∷ row damaged (rules_of 2 3 2) (damaged_items ++ LostLock 207 ∷ []) (totals 3 3 1 0 0 0 0 5 2 1 1 1)
    ∷ row damaged (rules_of 2 3 1) items_of_losses (totals 3 2 1 0 0 0 0 4 4 0 3 3)
    ∷ [])
unfolding computed
reports = refl

-- ---- the laws name these items and totals

pub items_as_named : (Acquired 51 2 ∷ Group (group_sent 2 26 first []) ∷ items_sent 104 (second ∷ first ∷ []) ≡ sent_items)
    × (Acquired 51 2 ∷ Group (group_sent 2 26 first damaged_first.damages) ∷ items_damaged 104 (damaged_second ∷ [])
    ≡ damaged_items)
    -- each group begins 104 bits after the one before
    × (items_damaged 104 (damaged_second ∷ damaged_first ∷ [])
    ≡ second_item
    ∷ group_at 208 (Some 2) A (valid OA 0x1234) (valid OB 0x2540) (corrected C 0x5244 0x0000001) (valid D 0x5320)
    ∷ [])
items_as_named = (refl, refl, refl)

pub totals_as_named : (totals_sent 2 ≡ totals 7 0 0 0 0 0 0 0 2 1 1 0)
    × (totals_sent 3 ≡ totals 11 0 0 0 0 0 0 0 3 2 1 0)
    × (totals_damaged 2 (masks_read damaged_first (damaged_second ∷ [])) ≡ totals 3 3 1 0 0 0 0 5 2 1 1 0)
unfolding computed
totals_as_named = (refl, refl, refl)

-- ---- sync that is kept, and lost

-- the bad blocks of these groups are one, one, and two in a row
abbrev pub damages : List ℕ
damages = 0x0000001 ∷ 0 ∷ four_damages damaged_second

-- sync that is lost at three in a row is kept
pub kept : KeepLock (Run 3) 0 damages
kept = (refl, (refl, (refl, (refl, (refl, (refl, tt))))))

pub at_the_end : (bad_after_blocks (Run 3) 0 damages ≡ 2)
    × (are_too_many (Run 2) (bad_after_blocks (Run 2) 0 damages) ≡ true)
at_the_end = (refl, refl)
