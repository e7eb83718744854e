-- A recording, and a longer one that begins with it: the common part of their reports. Cited by the law
-- `longer_recordings_add_rows`. This project's rule.
use Rattle.std.specs.Prelude.{◌≡◌, ℕ, ◌<◌, ◌≤◌, ◌⊎◌, min, List, [], ◌∷◌, ◌++◌, map, filter, take, nat_lt, Some, ⊤, slice_get, slice_index}
use Rattle.rds_stream.specs.Recording.{Signal, length_of, touched}
use Rattle.rds_sync.specs.{declared.item.Block.TheVariants.Missing, declared.item.Group.Group, declared.item.Item.Item, declared.item.Item.TheVariants.Group as GroupItem, declared.totals.Totals.Totals, Rules.RuleNumbers, Loss.IsLossRule, Report.report_items, Totals.totals_of}

-- ---- recordings

-- The longer recording begins with the bits of the shorter one. A window of these bits touches a gap in both recordings or in neither.
pub record BeginsWith (longer shorter : Signal) : Type 0 where
  pub more : List ℕ
  pub bits : longer.bits ≡ shorter.bits ++ more
  pub gaps : (i : ℕ) → i < length_of shorter → touched longer i ≡ touched shorter i

-- The first n bits of a recording, with its gaps as far as they are in them.
abbrev pub beginning : ℕ → Signal → Signal
beginning n b = record {
  bits = take n b.bits;
  gaps = map (λ gap. (gap.0, min gap.1 n)) (filter (λ gap. nat_lt gap.0 n) b.gaps);
}

-- Each recording begins with its first n bits.
abbrev pub BeginningsBegin : Type 0
BeginningsBegin = (b : Signal) (n : ℕ) → n ≤ length_of b → BeginsWith b (beginning n b)

-- ---- their reports

-- The group h goes on from g, whose block 4 was not read: h begins at the same bit, and has each block of g that was read.
pub record GoesOn (g h : Group) : Type 0 where
  pub unfinished : slice_get g.blocks 3 ≡ Some Missing
  pub place : h.place ≡ g.place
  pub blocks : (y : ℕ) → (slice_get g.blocks y ≡ Some Missing) ⊎ (slice_get h.blocks y ≡ slice_get g.blocks y)

-- The items at the end of the shorter report are none, or a group from which the first of the later items goes on.
abbrev pub EndGoesOn : List Item → List Item → Type 0
EndGoesOn [] later = ⊤
EndGoesOn (GroupItem g ∷ []) (GroupItem h ∷ later) = GoesOn g h
EndGoesOn end later = ⊥

-- The two reports begin with the same items. So a listing of the longer recording has the rows of the shorter one, and then more. One row
-- may differ: that of the group at the end of the shorter recording, which the longer one goes on with.
pub record OnlyAddsItems (shorter longer : List Item) : Type 0 where
  pub common : List Item
  pub end : List Item
  pub later : List Item
  pub shorter_is : shorter ≡ common ++ end
  pub longer_is : longer ≡ common ++ later
  pub goes_on : EndGoesOn end later

abbrev pub LongerRecordingsAddItems : Type 0
LongerRecordingsAddItems = (longer shorter : Signal) (rules : RuleNumbers) → IsLossRule rules.loss
    → BeginsWith longer shorter
    → OnlyAddsItems (report_items shorter rules) (report_items longer rules)

-- No total is less.
pub record AreNoLess (t u : Totals) : Type 0 where
  pub valid : t.valid ≤ u.valid
  pub bursts : (y : ℕ) → slice_index t.bursts y ≤ slice_index u.bursts y
  pub lost : t.lost ≤ u.lost
  pub bits : t.bits ≤ u.bits
  pub groups : t.groups ≤ u.groups
  pub complete : t.complete ≤ u.complete
  pub acquired : t.acquired ≤ u.acquired
  pub losses : t.losses ≤ u.losses

-- No total of the longer recording is less than that of the shorter one.
abbrev pub TotalsOnlyGrow : Type 0
TotalsOnlyGrow = (longer shorter : Signal) (rules : RuleNumbers) → IsLossRule rules.loss
    → BeginsWith longer shorter
    → AreNoLess (totals_of (report_items shorter rules)) (totals_of (report_items longer rules))
