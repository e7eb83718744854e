-- The totals of items that were read again: this project's rule. `SoftTotals::of_item` and `SoftTotals::plus` cite them.
use Rattle.std.specs.Prelude.{◌≡◌, ◌==◌, ℕ, ◌+◌, ◌^◌, ◌<◌, ◌≤◌, List, [], ◌∷◌, ◌++◌, Bool, true, false, sum_by, count_ones, map, min, slice_index, if◌then◌else◌}
use Rattle.std.specs.List.{list_all}
use Rattle.rds_sync.specs.Counting.{IsAtMost, plus as plus_totals}
use Rattle.rds_soft.specs.{declared.soft_reading.SoftReading.TheVariants.Valid, declared.soft_reading.SoftReading.TheVariants.Corrected, declared.soft_reading.SoftReading.TheVariants.Lost, declared.soft_item.SoftBlock.SoftBlock, declared.soft_item.SoftBlock.TheVariants.Read, declared.soft_item.SoftItem.SoftItem, declared.soft_item.SoftItem.TheVariants.Acquired, declared.soft_item.SoftItem.TheVariants.Group, declared.soft_item.SoftItem.TheVariants.LostLock, declared.soft_totals.SoftTotals.SoftTotals, Nearest.mask_of}

-- ---- counts of a block

-- 1 if it is valid
abbrev pub valid_in : SoftBlock → ℕ
valid_in (Read (Valid o info)) = 1
valid_in block = 0

-- 1 if it was read and is lost, that is, uncorrectable
abbrev pub lost_in : SoftBlock → ℕ
lost_in (Read Lost) = 1
lost_in block = 0

-- how many of its bits were corrected
abbrev pub bits_in : SoftBlock → ℕ
bits_in (Read (Corrected o info flips)) = count_ones (mask_of flips)
bits_in block = 0

-- 1 if it was corrected by n flips, or for n = 6 by six or more
abbrev pub flipped_in : ℕ → SoftBlock → ℕ
flipped_in n (Read (Corrected o info flips)) = if min (count_ones flips) 6 == n then 1 else 0
flipped_in n block = 0

-- whether it is valid or corrected
abbrev pub is_known : SoftBlock → Bool
is_known (Read (Valid o info)) = true
is_known (Read (Corrected o info flips)) = true
is_known block = false

-- ---- counts of items

-- a sum over the blocks of a group, 0 for any other item
abbrev pub sum_blocks : (SoftBlock → ℕ) → SoftItem → ℕ
sum_blocks f (Group g) = sum_by f g.blocks
sum_blocks f item = 0

abbrev pub groups_in : SoftItem → ℕ
groups_in (Group g) = 1
groups_in item = 0

-- 1 for a group of which each block is valid or corrected
abbrev pub complete_in : SoftItem → ℕ
complete_in (Group g) = if list_all is_known g.blocks then 1 else 0
complete_in item = 0

abbrev pub acquired_in : SoftItem → ℕ
acquired_in (Acquired a x) = 1
acquired_in item = 0

abbrev pub losses_in : SoftItem → ℕ
losses_in (LostLock a) = 1
losses_in item = 0

-- no block is corrected by a burst; the six counts by flips are apart
abbrev pub soft_totals_of : List SoftItem → SoftTotals
soft_totals_of items = record {
  totals = record {
    valid = sum_by (sum_blocks valid_in) items;
    bursts = 0 ∷ 0 ∷ 0 ∷ 0 ∷ 0 ∷ [];
    lost = sum_by (sum_blocks lost_in) items;
    bits = sum_by (sum_blocks bits_in) items;
    groups = sum_by groups_in items;
    complete = sum_by complete_in items;
    acquired = sum_by acquired_in items;
    losses = sum_by losses_in items;
  };
  flipped = map (λ n. sum_by (sum_blocks (flipped_in n)) items) (1 ∷ 2 ∷ 3 ∷ 4 ∷ 5 ∷ 6 ∷ []);
}

-- ---- sums

abbrev pub plus : SoftTotals → SoftTotals → SoftTotals
plus t u = record {
  totals = plus_totals t.totals u.totals;
  flipped = (slice_index t.flipped 0 + slice_index u.flipped 0) ∷ (slice_index t.flipped 1 + slice_index u.flipped 1)
      ∷ (slice_index t.flipped 2 + slice_index u.flipped 2) ∷ (slice_index t.flipped 3 + slice_index u.flipped 3)
      ∷ (slice_index t.flipped 4 + slice_index u.flipped 4) ∷ (slice_index t.flipped 5 + slice_index u.flipped 5) ∷ [];
}

-- the totals of a list are those of its first items together with those of the rest
abbrev pub SoftTotalsJoin : Type 0
SoftTotalsJoin = (first rest : List SoftItem) → soft_totals_of (first ++ rest) ≡ plus (soft_totals_of first) (soft_totals_of rest)

-- no count is above n
pub record AreAtMost (n : ℕ) (t : SoftTotals) : Type 0 where
  pub totals : IsAtMost n t.totals
  pub flipped1 : slice_index t.flipped 0 ≤ n
  pub flipped2 : slice_index t.flipped 1 ≤ n
  pub flipped3 : slice_index t.flipped 2 ≤ n
  pub flipped4 : slice_index t.flipped 3 ≤ n
  pub flipped5 : slice_index t.flipped 4 ≤ n
  pub flipped6 : slice_index t.flipped 5 ≤ n

-- counts so small that no sum of theirs is too great for a word of 64 bits
abbrev pub FitTogether : SoftTotals → SoftTotals → Type 0
FitTogether t u = (m : ℕ) × (n : ℕ) × (m + n < 2 ^ 64) × AreAtMost m t × AreAtMost n u
