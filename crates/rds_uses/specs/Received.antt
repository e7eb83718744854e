-- Recordings of groups that a station sent, as the callers of `sent` speak of them.
use Rattle.std.specs.Prelude.{◌≡◌, ℕ, ◌+◌, ◌*◌, List, [], ◌∷◌, Option, Some, flat_map, length, slice_index}
use Rattle.rds_stream.specs.Recording.{Signal, length_of, ungapped}
use Rattle.rds_sync.specs.{Convergence.IsLastFour, Convergence.IsSound, Convergence.sound_bits, Rules.RuleNumbers, Sent.AreCorrectable, Sent.AreHeardDamaged, Sent.KeepLock, Sent.SentGroup, Sent.bits_with_damage, Sent.four_damages, Sent.group_sent, Sent.items_damaged, Sent.items_sent, Sent.masks_read, Sent.totals_damaged, declared.item.Item.Item, declared.item.Item.TheVariants.Acquired, declared.item.Item.TheVariants.Group, declared.totals.Totals.Totals}

-- the four words of a group, each of which was read
abbrev pub four_words : List ℕ → List (Option ℕ)
four_words words = Some (slice_index words 0) ∷ Some (slice_index words 1) ∷ Some (slice_index words 2) ∷ Some (slice_index words 3) ∷ []

-- the report of groups that were sent from bit 0 on: block 2 of the first one acquires synchronism
abbrev pub report_sent : List (List ℕ) → List Item
report_sent [] = []
report_sent (words ∷ groups) = Acquired 51 2 ∷ Group (group_sent 2 26 words []) ∷ items_sent 104 groups

-- the report of such groups with bit errors
abbrev pub report_damaged : List SentGroup → List Item
report_damaged [] = []
report_damaged (g ∷ groups) = Acquired 51 2 ∷ Group (group_sent 2 26 g.words g.damages) ∷ items_damaged 104 groups

-- its totals, by the error masks
abbrev pub totals_received : List SentGroup → Totals
totals_received [] = totals_damaged 0 []
totals_received (g ∷ groups) = totals_damaged (length (g ∷ groups)) (masks_read g groups)

-- blocks 1 and 2 of the first group, which acquire sync, have no bit error, and the bit errors after them do not lose the lock
abbrev pub MayBeAcquired : RuleNumbers → List SentGroup → Type 0
MayBeAcquired rules [] = ⊥
MayBeAcquired rules (g ∷ groups) =
    (slice_index g.damages 0 ≡ 0) × (slice_index g.damages 1 ≡ 0)
    × KeepLock rules.loss 0 (slice_index g.damages 2 ∷ slice_index g.damages 3 ∷ flat_map four_damages groups)

-- the bits are those of these groups, and each block has one burst within the limit at most
pub record AreBitsOf (b : Signal) (rules : RuleNumbers) (groups : List SentGroup) : Type 0 where
  pub bits : b ≡ ungapped (flat_map bits_with_damage groups)
  pub correctable : AreCorrectable rules.burst groups
  pub acquired : MayBeAcquired rules groups

-- these groups are heard from the first bit to the last, whatever the bits are
pub record AreAllHeard (b : Signal) (rules : RuleNumbers) (groups : List SentGroup) : Type 0 where
  pub whole : length_of b ≡ 104 * length groups
  pub heard : AreHeardDamaged b rules.burst 0 groups
  pub acquired : MayBeAcquired rules groups

-- these groups are heard from one place to another, and their bit errors do not lose a lock that has these bad blocks
pub record AreHeardBetween (b : Signal) (rules : RuleNumbers) (from to bad : ℕ) (groups : List SentGroup) : Type 0 where
  pub heard : AreHeardDamaged b rules.burst from groups
  pub kept : KeepLock rules.loss bad (flat_map four_damages groups)
  pub end : to ≡ from + 104 * length groups

-- a sound range begins at `from`, and its last block of number 4 ends before `start`
pub record IsSoundUpTo (b : Signal) (rules : RuleNumbers) (from start : ℕ) : Type 0 where
  pub rivals : ℕ
  pub first : ℕ
  pub number : ℕ
  pub last : ℕ
  pub sound : IsSound b rules rivals from first number
  pub four : IsLastFour b from (from + sound_bits rules.loss rivals) first number last
  pub start_is : start ≡ first + 26 * last + 1
