-- Reports of groups with blocks inverted by a burst, of groups of version B, and of groups in conflict over their version.
use Rattle.std.specs.Prelude.{Option, ◌≡◌, ℕ, List, [], ◌∷◌, ◌++◌, map, Some, None, refl}
use Rattle.rds_sync.specs.Examples.Words.{Item, Acquired, LostLock, A, B, Unknown, OA, OB, C, Cx, D, computed, bytes_of, first, zero_group, rules_of, default_rules, missing, valid, corrected, lost, a0, b0, c0, d0, group_at, conflict_at, only_4_at, begun_with, items_of_whole, and_then, totals, row, AreReported}
use Rattle.rds_sync.specs.{declared.item.Block.Block, declared.item.Version.Version, Groups.group_of, Totals.totals_of}

-- ---- blocks of a zero group, corrected if the burst is within the limit, and else lost

-- bit 15 of block 3 is inverted; block 4 is by a burst of span 5; and of span 6
abbrev pub one_bit : List ℕ
one_bit = bytes_of 0x00003f000019800205a00001b4

abbrev pub span_5 : List ℕ
span_5 = bytes_of 0x00003f000019800005a00001a5

abbrev pub span_6 : List ℕ
span_6 = bytes_of 0x00003f000019800005a0000195

pub one_block : AreReported (
    row (first 78 one_bit) default_rules (begun_with b0 (corrected C 0 0x0008000) missing)
    (totals 1 1 0 0 0 0 0 1 1 0 1 0)
    ∷ row (first 104 span_5) (rules_of 5 3 10) (begun_with b0 c0 (corrected D 0 0x0000011))
    (totals 2 0 0 0 0 1 0 2 1 0 1 0)
    ∷ row (first 104 span_5) (rules_of 4 3 10) (begun_with b0 c0 lost) (totals 2 0 0 0 0 0 1 0 1 0 1 0)
    ∷ row (first 104 span_6) (rules_of 5 3 10) (begun_with b0 c0 lost) (totals 2 0 0 0 0 0 1 0 1 0 1 0)
    -- a corrected block is a bad one: here the first bad block loses the lock
    ∷ row (first 104 one_bit) (rules_of 2 3 1)
    (begun_with b0 (corrected C 0 0x0008000) missing ++ LostLock 77 ∷ Acquired 103 4 ∷ only_4_at 78 ∷ [])
    (totals 2 1 0 0 0 0 0 1 2 0 2 1)
    -- a loss at block 4 closes one group
    ∷ row (first 104 span_6) (rules_of 5 3 1) (begun_with b0 c0 lost ++ LostLock 103 ∷ [])
    (totals 2 0 0 0 0 0 1 0 1 0 1 1)
    ∷ [])
unfolding computed
one_block = refl

-- ---- bursts of each span, in the listing's order of the totals

-- a zero group, then one whose blocks 2, 3 and 4 are inverted by bursts of span 2, 3 and 4
abbrev pub spans_2_to_4 : List ℕ
spans_2_to_4 = zero_group ++ bytes_of 0x12341a8000d9800145a00001fc

pub spans_counted : AreReported (
    row (first 208 spans_2_to_4) (rules_of 4 3 10)
    (and_then A (valid OA 0x1234) (corrected OB 0 0x0000C00) (corrected C 0 0x0005000) (corrected D 0 0x0000048))
    (totals 4 0 1 1 1 0 0 6 2 1 1 0)
    ∷ row (first 208 spans_2_to_4) (rules_of 3 3 10)
    (and_then A (valid OA 0x1234) (corrected OB 0 0x0000C00) (corrected C 0 0x0005000) lost)
    (totals 4 0 1 1 0 0 1 4 2 0 1 0)
    ∷ [])
unfolding computed
spans_counted = refl

-- a group of type 0 and version A whose blocks after the first are corrected by these bursts
abbrev pub corrected_by : Block → ℕ → ℕ → ℕ → Item
corrected_by one two three four =
    group_at 0 (Some 0) A one (corrected OB 0 two) (corrected C 0 three) (corrected D 0 four)

-- one block corrected by a burst of span 1, two of span 2, and so on up to five of span 5; four valid ones, three
-- lost and two missing
abbrev pub one_to_five : List Item
one_to_five =
    Acquired 25 1
    ∷ corrected_by a0 0x0002000 0x0001800 0x0000003
    ∷ corrected_by a0 0x0007000 0x0000050 0x0000007
    ∷ corrected_by (corrected OA 0 0x0000009) 0x0000009 0x0000009 0x0000009
    ∷ corrected_by (corrected OA 0 0x0000220) 0x0000220 0x0000220 0x0000220
    ∷ group_at 0 (Some 0) A a0 (corrected OB 0 0x000001B) c0 lost
    ∷ LostLock 500
    ∷ Acquired 700 3
    ∷ group_at 0 (Some 0) A missing missing lost lost
    ∷ []

pub each_span_is_counted : totals_of one_to_five ≡ totals 4 1 2 3 4 5 3 33 6 4 2 1
unfolding computed
each_span_is_counted = refl

-- ---- a block 3 that both offsets fit: C with the burst 0x0000038, and C' with 0x0000200. It is corrected only if exactly one pair of an
-- offset that is tried and a burst fits.

-- a zero group, then one whose block 2 is inverted by a burst of span 6; the same block 3 beside a valid block 2 of version A
abbrev pub both_fit : List ℕ
both_fit = zero_group ++ bytes_of 0x00003f00001b900005400001b4

abbrev pub beside_version_a : List ℕ
beside_version_a = bytes_of 0x00003f000019800005400001b4

-- a corrected block 2 says the version as a valid one does: here it has one bit inverted, and says version A
abbrev pub corrected_a : List ℕ
corrected_a = zero_group ++ bytes_of 0x00003f000039800005400001b4

pub two_offsets : AreReported (
    row (first 208 both_fit) (rules_of 3 3 10)
    (items_of_whole ++ group_at 104 None Unknown a0 lost lost d0 ∷ []) (totals 5 0 0 0 0 0 2 0 2 0 1 0)
    ∷ row (first 208 both_fit) (rules_of 2 3 10)
    (items_of_whole ++ group_at 104 None B a0 lost (corrected Cx 0 0x0000200) d0 ∷ [])
    (totals 5 1 0 0 0 0 1 1 2 0 1 0)
    -- beside version A only C is tried
    ∷ row (first 104 beside_version_a) (rules_of 3 3 10) (begun_with b0 (corrected C 0 0x0000038) d0)
    (totals 2 0 0 1 0 0 0 3 1 0 1 0)
    ∷ row (first 104 beside_version_a) (rules_of 2 3 10) (begun_with b0 lost d0) (totals 2 0 0 0 0 0 1 0 1 0 1 0)
    ∷ row (first 208 corrected_a) (rules_of 3 3 10)
    (and_then A a0 (corrected OB 0 0x0000200) (corrected C 0 0x0000038) d0) (totals 5 1 0 1 0 0 0 4 2 1 1 0)
    -- with limit 2 the burst of C is past the limit, and C' is not tried
    ∷ row (first 208 corrected_a) (rules_of 2 3 10) (and_then A a0 (corrected OB 0 0x0000200) lost d0)
    (totals 5 1 0 0 0 0 1 1 2 0 1 0)
    -- beside version B only C'
    ∷ row (first 208 (zero_group ++ bytes_of 0x00003f02000c100005400001b4)) (rules_of 3 3 10)
    (and_then B a0 (corrected OB 0x0800 0x0000200) (corrected Cx 0 0x0000200) d0)
    (totals 5 2 0 0 0 0 0 2 2 1 1 0)
    ∷ [])
unfolding computed
two_offsets = refl

-- ---- groups whose block 2 says version B, and groups in conflict

pub versions : AreReported (
    -- C' in block 3, and then C: it is valid all the same, the version is its own, and the group is in conflict
    row (first 104 (bytes_of 0x00003f02002c10000d400001b4)) default_rules
    (Acquired 51 2 ∷ group_at 26 (Some 0) B missing (valid OB 0x0800) (valid Cx 0) d0 ∷ [])
    (totals 3 0 0 0 0 0 0 0 1 0 1 0)
    ∷ row (first 104 (bytes_of 0x00003f02002c100005a00001b4)) default_rules
    (Acquired 51 2 ∷ conflict_at 26 (Some 0) A missing (valid OB 0x0800) c0 d0 ∷ [])
    (totals 3 0 0 0 0 0 0 0 1 0 1 0)
    -- block 2 says type 15 and version B, block 3 has the offset C; and type 8 and version A, with the offset C'
    ∷ row (first 104 (bytes_of 0x00003f3e000f500005a00001b4)) default_rules
    (Acquired 51 2 ∷ conflict_at 26 (Some 15) A missing (valid OB 0xF800) c0 d0 ∷ [])
    (totals 3 0 0 0 0 0 0 0 1 0 1 0)
    ∷ row (first 104 (bytes_of 0x00003f20001ef0000d400001b4)) default_rules
    (Acquired 51 2 ∷ conflict_at 26 (Some 8) B missing (valid OB 0x8000) (valid Cx 0) d0 ∷ [])
    (totals 3 0 0 0 0 0 0 0 1 0 1 0)
    -- one bit of block 2 and one of block 3 are inverted: a corrected block 2 says type and version, and a group of valid and corrected
    -- blocks is complete
    ∷ row (first 208 (zero_group ++ bytes_of 0x00003f02000c100009400001b4)) default_rules
    (and_then B a0 (corrected OB 0x0800 0x0000200) (corrected Cx 0 0x0000100) d0)
    (totals 5 2 0 0 0 0 0 2 2 1 1 0)
    -- with the offset C in block 3, a corrected block 2 is enough for a conflict
    ∷ row (first 208 (zero_group ++ bytes_of 0x00003f02000c100005a00001b4)) default_rules
    (items_of_whole ++ conflict_at 104 (Some 0) A a0 (corrected OB 0x0800 0x0000200) c0 d0 ∷ [])
    (totals 6 1 0 0 0 0 0 1 2 1 1 0)
    ∷ [])
unfolding computed
versions = refl

-- ---- all sixteen types of groups

-- the type and the version of a group of which only block 2 was read, with this information word
abbrev pub said_by : ℕ → Option ℕ × Version
said_by info = let group = group_of 0 (missing ∷ valid OB info ∷ missing ∷ missing ∷ []) in (group.kind, group.version)

-- bits 15 to 12 are the type, bit 11 is the version, and the other bits say neither
pub types : map said_by (0x07FF ∷ 0x1800 ∷ 0x2000 ∷ 0x3FFF ∷ 0x4540 ∷ 0x5ABC ∷ 0x6001 ∷ 0x7800 ∷ 0x87FF ∷ 0x9800
    ∷ 0xA000 ∷ 0xBFFF ∷ 0xC540 ∷ 0xDABC ∷ 0xE001 ∷ 0xF800 ∷ [])
    ≡ (Some 0, A) ∷ (Some 1, B) ∷ (Some 2, A) ∷ (Some 3, B) ∷ (Some 4, A) ∷ (Some 5, B) ∷ (Some 6, A) ∷ (Some 7, B)
    ∷ (Some 8, A) ∷ (Some 9, B) ∷ (Some 10, A) ∷ (Some 11, B) ∷ (Some 12, A) ∷ (Some 13, B) ∷ (Some 14, A)
    ∷ (Some 15, B) ∷ []
types = refl
