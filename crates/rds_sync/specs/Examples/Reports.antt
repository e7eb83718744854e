-- Reports of zero groups: whole, cut short, far apart, with gaps, and with locks that are lost.
use Rattle.std.specs.{Prelude.◌+◌, Prelude.◌*◌, Prelude.ℕ, Prelude.List, Prelude.[], Prelude.◌∷◌, Prelude.◌++◌, Prelude.map, Prelude.replicate, Prelude.Some, Prelude.None, Prelude.refl, List.range_with_len}
use Rattle.rds_sync.specs.Examples.Words.{Item, Acquired, LostLock, Unknown, A, OB, C, D, computed, bytes_of, first, gapped, zero_group, zero_groups, rules_of, rules_with_share, default_rules, missing, valid, lost, a0, b0, c0, d0, group_at, whole_at, from_2_at, from_3_at, only_4_at, lost_1_at, begun_with, items_of_whole, and_then, totals, row, nothing_in, AreReported}
use Rattle.rds_sync.specs.Examples.DamagedBlocks.{one_bit}

-- ---- whole groups

-- block 1 of the zero group is not reported, since block 2 is the first that can acquire
pub one_group : AreReported (
    nothing_in (first 0 []) default_rules
    -- no window ends before place 25
    ∷ nothing_in (first 25 zero_group) default_rules
    -- block 1 has no partner before it
    ∷ nothing_in (first 26 zero_group) default_rules
    -- one bit is missing: block 2 is not reached
    ∷ nothing_in (first 51 zero_group) default_rules
    ∷ row (first 52 zero_group) default_rules (begun_with b0 missing missing) (totals 1 0 0 0 0 0 0 0 1 0 1 0)
    ∷ row (first 78 zero_group) default_rules (begun_with b0 c0 missing) (totals 2 0 0 0 0 0 0 0 1 0 1 0)
    -- one bit is missing: block 4 is not reached
    ∷ row (first 103 zero_group) default_rules (begun_with b0 c0 missing) (totals 2 0 0 0 0 0 0 0 1 0 1 0)
    ∷ row (first 104 zero_group) default_rules items_of_whole (totals 3 0 0 0 0 0 0 0 1 0 1 0)
    ∷ [])
unfolding computed
one_group = refl

abbrev pub items_of : ℕ → List Item
items_of groups = items_of_whole ++ map (λ k. whole_at (104 + 104 * k)) (range_with_len 0 groups)

-- two groups and four: one lock, by either reach
pub more_groups : AreReported (
    row (first 208 (zero_groups 2)) default_rules (items_of 1) (totals 7 0 0 0 0 0 0 0 2 1 1 0)
    -- its block 3 ends at bit 181
    ∷ row (first 182 (zero_groups 2)) default_rules (and_then A a0 b0 c0 missing) (totals 6 0 0 0 0 0 0 0 2 0 1 0)
    ∷ row (first 416 (zero_groups 4)) (rules_of 2 4 10) (items_of 3) (totals 15 0 0 0 0 0 0 0 4 3 1 0)
    ∷ row (first 416 (zero_groups 4)) (rules_of 2 3 10) (items_of 3) (totals 15 0 0 0 0 0 0 0 4 3 1 0)
    ∷ [])
unfolding computed
more_groups = refl

-- ---- where a lock begins

-- block 1, and a block 2 five blocks after it; two blocks 4, eight blocks apart; zeros between them
abbrev pub five_apart : List ℕ
five_apart = 0x00 ∷ 0x00 ∷ 0x3f ∷ replicate 15 0x00 ++ 0x19 ∷ 0x80 ∷ []

abbrev pub eight_apart : List ℕ
eight_apart = 0x00 ∷ 0x00 ∷ 0x6d ∷ replicate 25 0x00 ++ 0x6d ∷ 0x00 ∷ []

abbrev pub block_2_acquires : List Item
block_2_acquires = Acquired 155 2 ∷ group_at 130 (Some 0) A missing b0 missing missing ∷ []

-- the second block acquires if it is within the reach
pub far_apart : AreReported (
    -- only blocks 3 and 4: a block 4 that acquires is a group of its own
    row (first 52 (0x00 ∷ 0x00 ∷ 0x5a ∷ 0x00 ∷ 0x00 ∷ 0x1b ∷ 0x40 ∷ [])) default_rules
    (Acquired 51 4 ∷ only_4_at 26 ∷ []) (totals 1 0 0 0 0 0 0 0 1 0 1 0)
    -- programme 0x1234, a group of type 2 and version A: two pairs of characters of a radio text
    ∷ row (first 104 (bytes_of 0x12341a89501ac52449594c83fb)) default_rules
    (Acquired 51 2 ∷ group_at 26 (Some 2) A missing (valid OB 0x2540) (valid C 0x5244) (valid D 0x5320) ∷ [])
    (totals 3 0 0 0 0 0 0 0 1 0 1 0)
    ∷ row (first 156 five_apart) (rules_of 0 8 10) block_2_acquires (totals 1 0 0 0 0 0 0 0 1 0 1 0)
    ∷ row (first 156 five_apart) (rules_of 0 5 10) block_2_acquires (totals 1 0 0 0 0 0 0 0 1 0 1 0)
    ∷ nothing_in (first 156 five_apart) (rules_of 0 4 10)
    ∷ row (first 234 eight_apart) (rules_of 0 8 10) (Acquired 233 4 ∷ only_4_at 208 ∷ [])
    (totals 1 0 0 0 0 0 0 0 1 0 1 0)
    ∷ nothing_in (first 234 eight_apart) (rules_of 0 7 10)
    ∷ [])
unfolding computed
far_apart = refl

-- ---- gaps: a block that touches one is lost, whatever its bits are, and its window neither acquires nor is a partner

abbrev pub from_block_3 : List Item
from_block_3 = Acquired 77 3 ∷ from_3_at 52 ∷ []

-- block 1 of the second group is bad and loses the lock; block 2 then acquires by block 4 of the first group
abbrev pub block_1_loses : List Item
block_1_loses = items_of_whole ++ lost_1_at 104 ∷ LostLock 129 ∷ Acquired 155 2 ∷ from_2_at 130 ∷ []

pub gaps : AreReported (
    -- one bit of block 1 of the second group
    row (gapped 208 (zero_groups 2) 104 105) default_rules (and_then A lost b0 c0 d0)
    (totals 6 0 0 0 0 0 1 0 2 0 1 0)
    -- it is a bad block, here the first
    ∷ row (gapped 208 (zero_groups 2) 104 105) (rules_of 2 3 1) block_1_loses (totals 6 0 0 0 0 0 1 0 3 0 2 1)
    -- a block that is corrected without a gap is lost if one of its bits means nothing
    ∷ row (gapped 78 one_bit 60 61) default_rules (begun_with b0 lost missing) (totals 1 0 0 0 0 0 1 0 1 0 1 0)
    -- block 2 does not acquire, and block 3 does by block 1, two blocks back
    ∷ row (gapped 104 zero_group 40 41) default_rules from_block_3 (totals 2 0 0 0 0 0 0 0 1 0 1 0)
    -- the result is the same if all of block 2 is a gap, which its neighbours do not touch
    ∷ row (gapped 104 zero_group 26 52) default_rules from_block_3 (totals 2 0 0 0 0 0 0 0 1 0 1 0)
    -- one place more, and block 3 touches it too: block 4 acquires by block 1, three blocks back
    ∷ row (gapped 104 zero_group 26 53) default_rules (Acquired 103 4 ∷ only_4_at 78 ∷ [])
    (totals 1 0 0 0 0 0 0 0 1 0 1 0)
    -- and with one place more at its front, no partner is left
    ∷ nothing_in (gapped 104 zero_group 25 53) default_rules
    ∷ nothing_in (gapped 104 zero_group 0 104) default_rules
    ∷ [])
unfolding computed
gaps = refl

-- ---- losses

-- a zero group, then one whose block 1 is inverted by a burst of span 6; and one whose block 3 is too
abbrev pub one_bad : List ℕ
one_bad = zero_group ++ bytes_of 0x000037400019800005a00001b4

abbrev pub two_bad : List ℕ
two_bad = zero_group ++ bytes_of 0x000037400019800005240001b4

-- the second bad block among three loses
abbrev pub items_lost : List Item
items_lost = items_of_whole ++ group_at 104 (Some 0) A lost b0 lost missing ∷ LostLock 181 ∷ Acquired 207 4
    ∷ only_4_at 182 ∷ []

pub losses : AreReported (
    -- the loss closes a group of only the bad block; the partner of the next acquisition is in the lock before
    row (first 208 one_bad) (rules_of 2 3 1) block_1_loses (totals 6 0 0 0 0 0 1 0 3 0 2 1)
    -- blocks with the offsets A, D, A, D. Block 1 at place 77 acquires, and block 4 at place 103 would, by block 1 at place 25; but nothing is acquired at the place
    -- of a loss
    ∷ row (first 104 (bytes_of 0x00003f00001b400003f00001b4)) (rules_of 2 3 1)
    (Acquired 77 1 ∷ group_at 52 None Unknown a0 lost missing missing ∷ LostLock 103 ∷ [])
    (totals 1 0 0 0 0 0 1 0 1 0 1 1)
    -- one bad block of four loses: as at the first bad block
    ∷ row (first 208 one_bad) (rules_with_share 1 4) block_1_loses (totals 6 0 0 0 0 0 1 0 3 0 2 1)
    -- by two of four it does not lose
    ∷ row (first 208 one_bad) (rules_with_share 2 4) (and_then A lost b0 c0 d0) (totals 6 0 0 0 0 0 1 0 2 0 1 0)
    ∷ row (first 208 two_bad) (rules_with_share 2 3) items_lost (totals 5 0 0 0 0 0 2 0 3 0 2 1)
    -- the bad blocks are never adjacent
    ∷ row (first 208 two_bad) (rules_with_share 2 2) (and_then A lost b0 lost d0) (totals 5 0 0 0 0 0 2 0 2 0 1 0)
    ∷ [])
unfolding computed
losses = refl

-- ---- a lock that outlasts more than ten bad blocks in a row: a zero group, and then zeros, which no block of a group is

-- `count` groups of four lost blocks from place 104 on
abbrev pub lost_groups : ℕ → List Item
lost_groups count = map (λ k. group_at (104 + 104 * k) None Unknown lost lost lost lost) (range_with_len 0 count)

abbrev pub silence : ℕ → List ℕ
silence groups = zero_group ++ replicate (13 * groups) 0x00

abbrev pub lost_at_64 : List Item
lost_at_64 = items_of_whole ++ lost_groups 16 ++ LostLock 1767 ∷ []

abbrev pub lost_at_11 : List Item
lost_at_11 = items_of_whole ++ lost_groups 2 ++ group_at 312 None Unknown lost lost lost missing ∷ LostLock 389 ∷ []

abbrev pub kept_at_11 : List Item
kept_at_11 = items_of_whole ++ lost_groups 2 ++ group_at 312 None Unknown lost lost lost d0
    ∷ group_at 416 None Unknown lost lost lost lost ∷ []

pub long_losses : AreReported (
    -- the sixty-fourth bad block, a block 4, loses the lock
    row (first 1768 (silence 16)) (rules_of 0 3 64) lost_at_64 (totals 3 0 0 0 0 0 64 0 17 0 1 1)
    -- the eleventh, a block 3
    ∷ row (first 520 (silence 4)) (rules_of 0 3 11) lost_at_11 (totals 3 0 0 0 0 0 11 0 4 0 1 1)
    -- after eleven bad blocks of twelve a good one, block 4, keeps it, and counting begins anew
    ∷ row (first 520 (zero_group ++ replicate 36 0x00 ++ 0x00 ∷ 0x01 ∷ 0xb4 ∷ replicate 13 0x00)) (rules_of 0 3 12)
    kept_at_11 (totals 4 0 0 0 0 0 15 0 5 0 1 0)
    ∷ [])
unfolding computed
long_losses = refl
