-- Groups as a station sends them, and the items decoded from a recording of them: without damage, with
-- damage, and from any bit on. Cited by the laws `damaged_groups_are_corrected`, `sent_groups_are_listed`,
-- `encoded_groups_are_listed`, `packed_groups_are_sent`, `damaged_groups_are_listed`,
-- `damaged_bits_are_decoded`, `damage_tells_totals` and `sound_signal_is_decoded`.
--
-- A group is four blocks of 26 bits (EN 50067:1998, 2.1); each bit string is sent with its most significant bit first, and there are no gaps
-- between blocks or groups (2.2); checkwords and offset words are those of 2.3 and Annex A. How bursts are corrected, and when a decoder
-- acquires and loses sync, are this project's rules (the standard leaves them to the receiver: Annexes B and C).
use Rattle.std.specs.Prelude.{◌≡◌, ◌≢◌, ℕ, zero, suc, ◌+◌, ◌-◌, ◌*◌, ◌/◌, ◌%◌, ◌^◌, ◌<◌, ◌≤◌, ◌⊎◌, List, [], ◌∷◌, ◌++◌, flat_map, ◌==◌, Some, ⊤, false, nat_le, if◌then◌else◌, length, slice_index, slice_index_or, bit_xor, drop, count_by, sum_by, count_ones}
use Rattle.std.specs.Int.{to_be_bytes, w128}
use Rattle.rds_code.specs.{declared.offset.Offset.Offset, declared.offset.Offset.TheVariants.A, declared.offset.Offset.TheVariants.B, declared.offset.Offset.TheVariants.D, declared.reading.Reading.TheVariants.Valid, declared.reading.Reading.TheVariants.Corrected, Bursts.IsBurst, Bursts.burst_length, Encoding.IsBlockOf, Encoding.third_offset, Encoding.encoded_group, Correction.version_burst}
use Rattle.rds_stream.specs.Recording.{Signal, heard, length_of, ungapped, bits_of}
use Rattle.rds_sync.specs.{declared.item.Block.Block, declared.item.Block.TheVariants.Missing, declared.item.Block.TheVariants.Read, declared.item.Group.Group, declared.item.Item.Item, declared.item.Item.TheVariants.Acquired, declared.item.Item.TheVariants.Group as GroupItem, declared.state.State.State, declared.state.State.TheVariants.Locked, declared.totals.Totals.Totals, Groups.type_in, Groups.version_of_bit, Groups.group, Rules.RuleNumbers, declared.loss.Loss.Loss, Loss.IsLossRule, Loss.bad_after, Loss.are_too_many, Lawful.IsLawful, Step.run, Step.lock_of, Report.report_items, Totals.by_burst_length, Totals.totals_of, Convergence.IsSound, Convergence.IsLastFour, Convergence.sound_bits}

-- ---- a group

-- At this place ends the block that carries info with offset o. Its bit errors are the ones of the error mask e: none, or one burst within
-- the limit (2.3).
pub record IsHeardFrom (b : Signal) (limit place info : ℕ) (o : Offset) (e : ℕ) : Type 0 where
  pub sent : ℕ
  pub block : IsBlockOf sent info o
  pub heard_is : heard b place ≡ Some (bit_xor sent e)
  pub damage : (e ≡ 0) ⊎ IsBurst limit e

-- A group of these four words is heard from block 1 or 2 on, and its block 4 ends at place p (2.1). Each block has its own error mask. With
-- limit 5, that of block 3 is not the burst which makes of it a valid block of the other version.
pub record GroupIsHeard (b : Signal) (limit first p : ℕ) (words damages : List ℕ) : Type 0 where
  pub one : first ≤ 1 → IsHeardFrom b limit (p - 78) (slice_index words 0) A (slice_index damages 0)
  pub two : IsHeardFrom b limit (p - 52) (slice_index words 1) B (slice_index damages 1)
  pub three : IsHeardFrom b limit (p - 26) (slice_index words 2) (third_offset (slice_index words 1))
      (slice_index damages 2)
  pub four : IsHeardFrom b limit p (slice_index words 3) D (slice_index damages 3)
  pub no_version_burst : limit ≡ 5 → slice_index damages 2 ≢ version_burst

-- A block that was sent: valid without a bit error, and else corrected, with its information word and its error mask.
abbrev pub block_sent : Offset → ℕ → ℕ → Block
block_sent o info zero = Read (Valid o info)
block_sent o info (suc e) = Read (Corrected o info (suc e))

-- A group that was sent: each block with the word that was sent, and the group type and version that block 2 says (3.1.2).
abbrev pub group_sent : ℕ → ℕ → List ℕ → List ℕ → Group
group_sent first place words damages = record {
  place = place;
  blocks = (if nat_le first 1 then block_sent A (slice_index words 0) (slice_index damages 0) else Missing)
      ∷ block_sent B (slice_index words 1) (slice_index damages 1)
      ∷ block_sent (third_offset (slice_index words 1)) (slice_index words 2) (slice_index damages 2)
      ∷ block_sent D (slice_index words 3) (slice_index damages 3)
      ∷ [];
  kind = Some (type_in (slice_index words 1));
  version = version_of_bit (slice_index words 1);
  conflict = false;
}

-- A group is read as it was sent, if no block has more than one burst within the limit. Each damaged block names its error mask.
abbrev pub GroupsAreCorrected : Type 0
GroupsAreCorrected = (b : Signal) (rules : RuleNumbers) (first p : ℕ) (words damages : List ℕ) → 1 ≤ first
    → first ≤ 2 → rules.burst ≤ 5
    → GroupIsHeard b rules.burst first p words damages
    → group b rules first 4 p ≡ group_sent first (p - 26 * (4 - first) - 25) words damages

-- ---- a recording

-- Groups of these words are heard as they were sent, one after the other: 104 bits each, the first bit of the first one at this place (2.1).
abbrev pub AreHeard : Signal → ℕ → List (List ℕ) → Type 0
AreHeard b place [] = ⊤
AreHeard b place (words ∷ groups) = GroupIsHeard b 0 1 (place + 103) words []
    × AreHeard b (place + 104) groups

-- Their items: each group is complete, with its own words, and begins 104 bits after the one before.
abbrev pub items_sent : ℕ → List (List ℕ) → List Item
items_sent place [] = []
items_sent place (words ∷ groups) = GroupItem (group_sent 1 place words []) ∷ items_sent (place + 104) groups

-- The totals of n groups that were sent from bit 0 on. Block 1 of the first group is before the lock, so it is not counted.
abbrev pub totals_sent : ℕ → Totals
totals_sent n = record {
  valid = 4 * n - 1;
  bursts = 0 ∷ 0 ∷ 0 ∷ 0 ∷ 0 ∷ [];
  lost = 0;
  bits = 0;
  groups = n;
  complete = n - 1;
  acquired = 1;
  losses = 0;
}

-- A recording of groups as they were sent, from its first bit to its last, is decoded to these groups, by all rules. Block 2 of the first
-- group acquires sync at bit 51. That group is listed without block 1, and each other group as it was sent.
abbrev pub SentGroupsAreListed : Type 0
SentGroupsAreListed = (b : Signal) (rules : RuleNumbers) (words : List ℕ) (groups : List (List ℕ))
    → IsLossRule rules.loss → 1 ≤ rules.reach → rules.burst ≤ 5
    → length_of b ≡ 104 * length (words ∷ groups) → AreHeard b 0 (words ∷ groups)
    → (report_items b rules ≡ Acquired 51 2 ∷ GroupItem (group_sent 2 26 words []) ∷ items_sent 104 groups)
    × (totals_of (report_items b rules) ≡ totals_sent (length (words ∷ groups)))

-- ---- its bits

-- The n bits of w, the most significant first (2.2).
unfoldable pub binary : ℕ → ℕ → List ℕ
binary zero w = []
binary (suc n) w = binary n (w / 2) ++ w % 2 ∷ []

-- The 104 bits of a group of these words: its four blocks in order (2.1).
abbrev pub group_bits : List ℕ → List ℕ
group_bits words = flat_map (binary 26) (encoded_group words)

-- The bits of groups that are sent one after the other, without gaps between them (2.2).
abbrev pub bits_sent : List (List ℕ) → List ℕ
bits_sent groups = flat_map group_bits groups

-- Each information word has 16 bits (2.1).
abbrev pub AreWords : List (List ℕ) → Type 0
AreWords groups = (k y : ℕ) → slice_index (slice_index_or groups k []) y < 2 ^ 16

-- Groups are heard as they were sent at any place of a recording, whatever bits come before and after them.
abbrev pub EncodedGroupsAreHeard : Type 0
EncodedGroupsAreHeard = (before after : List ℕ) (groups : List (List ℕ)) → AreWords groups
    → AreHeard (ungapped (before ++ (bits_sent groups ++ after))) (length before) groups

-- A recording of these bits only is decoded to the groups, whatever their words are, by all rules.
abbrev pub EncodedGroupsAreListed : Type 0
EncodedGroupsAreListed = (rules : RuleNumbers) (words : List ℕ) (groups : List (List ℕ))
    → IsLossRule rules.loss
    → 1 ≤ rules.reach → rules.burst ≤ 5
    → AreWords (words ∷ groups)
    → let b : Signal = ungapped (bits_sent (words ∷ groups)) in
    (report_items b rules ≡ Acquired 51 2 ∷ GroupItem (group_sent 2 26 words []) ∷ items_sent 104 groups)
    × (totals_of (report_items b rules) ≡ totals_sent (length (words ∷ groups)))

-- A group as the 13 bytes that hold its 104 bits, the first bit of each byte highest (this project's rule).
abbrev pub packed_group : List ℕ → List ℕ
packed_group words =
    let blocks : List ℕ = encoded_group words in
    drop 3 (to_be_bytes w128
    (((slice_index blocks 0 * 2 ^ 26 + slice_index blocks 1) * 2 ^ 26 + slice_index blocks 2) * 2 ^ 26
    + slice_index blocks 3))

abbrev pub packed_groups : List (List ℕ) → List ℕ
packed_groups groups = flat_map packed_group groups

-- The bits of these bytes are those of the groups.
abbrev pub PackedGroupsAreSent : Type 0
PackedGroupsAreSent = (groups : List (List ℕ)) → AreWords groups
    → (length (packed_groups groups) ≡ 13 * length groups)
    × (bits_of (packed_groups groups) (8 * length (packed_groups groups)) ≡ bits_sent groups)

-- ---- a recording with damage

-- The four words of a group that was sent, and the error mask of each of its four blocks.
pub record SentGroup : Type 0 where
  pub words : List ℕ
  pub damages : List ℕ

abbrev pub four_damages : SentGroup → List ℕ
four_damages g = slice_index g.damages 0 ∷ slice_index g.damages 1 ∷ slice_index g.damages 2
    ∷ slice_index g.damages 3 ∷ []

-- Such groups are heard one after the other, each block with its error mask: none, or one burst within the limit.
abbrev pub AreHeardDamaged : Signal → ℕ → ℕ → List SentGroup → Type 0
AreHeardDamaged b limit place [] = ⊤
AreHeardDamaged b limit place (g ∷ groups) = GroupIsHeard b limit 1 (place + 103) g.words g.damages
    × AreHeardDamaged b limit (place + 104) groups

-- Their items: each group with the words that were sent.
abbrev pub items_damaged : ℕ → List SentGroup → List Item
items_damaged place [] = []
items_damaged place (g ∷ groups) = GroupItem (group_sent 1 place g.words g.damages)
    ∷ items_damaged (place + 104) groups

-- The lock's record of bad blocks, after blocks with these error masks: a block with any bit error is bad.
abbrev pub bad_after_blocks : Loss → ℕ → List ℕ → ℕ
bad_after_blocks loss bad [] = bad
bad_after_blocks loss bad (e ∷ es) = bad_after_blocks loss (bad_after loss (e == 0) bad) es

-- None of these blocks loses sync.
abbrev pub KeepLock : Loss → ℕ → List ℕ → Type 0
KeepLock loss bad [] = ⊤
KeepLock loss bad (e ∷ es) = (are_too_many loss (bad_after loss (e == 0) bad) ≡ false)
    × KeepLock loss (bad_after loss (e == 0) bad) es

-- A decoder that is locked at the first bit of a group gives each group that is heard from there on, with the words that were sent, if the
-- damage does not lose sync.
abbrev pub LockedGroupsAreListed : Type 0
LockedGroupsAreListed = (b : Signal) (rules : RuleNumbers) → rules.burst ≤ 5
    → (place bad : ℕ) (groups : List SentGroup)
    → AreHeardDamaged b rules.burst place groups → KeepLock rules.loss bad (flat_map four_damages groups)
    → let end : ℕ = place + 104 * length groups in
    let bad_then : ℕ = bad_after_blocks rules.loss bad (flat_map four_damages groups) in
    run b rules (Locked (lock_of (place + 25) 1 bad 1)) place (104 * length groups)
    ≡ (Locked (lock_of (end + 25) 1 bad_then 1), items_damaged place groups)

-- A recording of damaged groups is decoded to the groups that were sent: if blocks 1 and 2 of the first group have no bit error, each other
-- block has at most one burst within the limit, and the damage does not lose sync.
abbrev pub DamagedGroupsAreListed : Type 0
DamagedGroupsAreListed = (b : Signal) (rules : RuleNumbers) (g : SentGroup) (groups : List SentGroup)
    → IsLossRule rules.loss → 1 ≤ rules.reach → rules.burst ≤ 5
    → length_of b ≡ 104 * length (g ∷ groups) → AreHeardDamaged b rules.burst 0 (g ∷ groups)
    → slice_index g.damages 0 ≡ 0 → slice_index g.damages 1 ≡ 0
    → KeepLock rules.loss 0 (slice_index g.damages 2 ∷ slice_index g.damages 3 ∷ flat_map four_damages groups)
    → report_items b rules ≡ Acquired 51 2 ∷ GroupItem (group_sent 2 26 g.words g.damages)
    ∷ items_damaged 104 groups

-- ---- its totals

-- The error masks of the blocks that are read: of all but block 1 of the first group, which is before the lock.
abbrev pub masks_read : SentGroup → List SentGroup → List ℕ
masks_read g groups = slice_index g.damages 1 ∷ slice_index g.damages 2 ∷ slice_index g.damages 3
    ∷ flat_map four_damages groups

-- The totals of n groups, by the error masks of the blocks that are read: valid blocks are those without bit errors, corrected ones are
-- counted by burst length, corrected bits are the bit errors. No block is uncorrectable, and sync is acquired once and never lost.
abbrev pub totals_damaged : ℕ → List ℕ → Totals
totals_damaged n masks = record {
  valid = count_by (λ e. e == 0) masks;
  bursts = by_burst_length (λ s. count_by (λ e. burst_length e == s) masks);
  lost = 0;
  bits = sum_by count_ones masks;
  groups = n;
  complete = n - 1;
  acquired = 1;
  losses = 0;
}

-- Such a recording has these totals: they follow from only the damage, whatever the words are.
abbrev pub DamageTellsTotals : Type 0
DamageTellsTotals = (b : Signal) (rules : RuleNumbers) (g : SentGroup) (groups : List SentGroup)
    → IsLossRule rules.loss → 1 ≤ rules.reach → rules.burst ≤ 5
    → length_of b ≡ 104 * length (g ∷ groups) → AreHeardDamaged b rules.burst 0 (g ∷ groups)
    → slice_index g.damages 0 ≡ 0 → slice_index g.damages 1 ≡ 0
    → KeepLock rules.loss 0 (slice_index g.damages 2 ∷ slice_index g.damages 3 ∷ flat_map four_damages groups)
    → totals_of (report_items b rules) ≡ totals_damaged (length (g ∷ groups)) (masks_read g groups)

-- ---- its bits

-- The bits of a group as they are received: each block with its bit errors.
abbrev pub bits_with_damage : SentGroup → List ℕ
bits_with_damage g =
    let blocks : List ℕ = encoded_group g.words in
    binary 26 (bit_xor (slice_index blocks 0) (slice_index g.damages 0))
    ++ (binary 26 (bit_xor (slice_index blocks 1) (slice_index g.damages 1))
    ++ (binary 26 (bit_xor (slice_index blocks 2) (slice_index g.damages 2))
    ++ (binary 26 (bit_xor (slice_index blocks 3) (slice_index g.damages 3)) ++ [])))

-- The words have 16 bits, and each block has no bit error or one burst within the limit; with limit 5, block 3 not the one that makes of it a
-- valid block of the other version.
pub record IsCorrectable (limit : ℕ) (g : SentGroup) : Type 0 where
  pub words : (y : ℕ) → slice_index g.words y < 2 ^ 16
  pub damages : (y : ℕ) → (slice_index g.damages y ≡ 0) ⊎ IsBurst limit (slice_index g.damages y)
  pub no_version_burst : limit ≡ 5 → slice_index g.damages 2 ≢ version_burst

abbrev pub AreCorrectable : ℕ → List SentGroup → Type 0
AreCorrectable limit [] = ⊤
AreCorrectable limit (g ∷ groups) = IsCorrectable limit g × AreCorrectable limit groups

-- Such groups are heard at any place of a recording, whatever bits come before and after them.
abbrev pub DamagedGroupsAreHeard : Type 0
DamagedGroupsAreHeard = (before after : List ℕ) (limit : ℕ) (groups : List SentGroup)
    → AreCorrectable limit groups
    → AreHeardDamaged (ungapped (before ++ (flat_map bits_with_damage groups ++ after))) limit
    (length before) groups

-- A recording of these bits only is decoded to the words that were sent, if the damage does not lose sync.
abbrev pub DamagedBitsAreDecoded : Type 0
DamagedBitsAreDecoded = (rules : RuleNumbers) (g : SentGroup) (groups : List SentGroup)
    → IsLossRule rules.loss → 1 ≤ rules.reach → rules.burst ≤ 5
    → AreCorrectable rules.burst (g ∷ groups) → slice_index g.damages 0 ≡ 0 → slice_index g.damages 1 ≡ 0
    → KeepLock rules.loss 0 (slice_index g.damages 2 ∷ slice_index g.damages 3 ∷ flat_map four_damages groups)
    → report_items (ungapped (flat_map bits_with_damage (g ∷ groups))) rules
    ≡ Acquired 51 2 ∷ GroupItem (group_sent 2 26 g.words g.damages) ∷ items_damaged 104 groups

-- The totals of such a recording follow from its error masks, too.
abbrev pub DamagedBitsTellTotals : Type 0
DamagedBitsTellTotals = (rules : RuleNumbers) (g : SentGroup) (groups : List SentGroup)
    → IsLossRule rules.loss → 1 ≤ rules.reach → rules.burst ≤ 5
    → AreCorrectable rules.burst (g ∷ groups) → slice_index g.damages 0 ≡ 0 → slice_index g.damages 1 ≡ 0
    → KeepLock rules.loss 0 (slice_index g.damages 2 ∷ slice_index g.damages 3 ∷ flat_map four_damages groups)
    → totals_of (report_items (ungapped (flat_map bits_with_damage (g ∷ groups))) rules)
    ≡ totals_damaged (length (g ∷ groups)) (masks_read g groups)

-- ---- from any bit on

-- A run from any lawful state covers a sound range, up to its last block 4. From there on it gives each group
-- that is heard, with the words that were sent, and nothing else, if the damage does not lose sync.
abbrev pub SoundSignalIsDecoded : Type 0
SoundSignalIsDecoded = (b : Signal) (rules : RuleNumbers) → IsLossRule rules.loss → 1 ≤ rules.reach
    → rules.burst ≤ 5
    → (s : ℕ) (t : State) → IsLawful rules s t
    → (j p c last : ℕ) → IsSound b rules j s p c → IsLastFour b s (s + sound_bits rules.loss j) p c last
    → let start : ℕ = p + 26 * last + 1 in
    (groups : List SentGroup) → AreHeardDamaged b rules.burst start groups
    → KeepLock rules.loss 0 (flat_map four_damages groups)
    → let end : ℕ = start + 104 * length groups in
    run b rules t s (end - s)
    ≡ (
      Locked (lock_of (end + 25) 1 (bad_after_blocks rules.loss 0 (flat_map four_damages groups)) 1),
      (run b rules t s (start - s)).1 ++ items_damaged start groups,
    )
