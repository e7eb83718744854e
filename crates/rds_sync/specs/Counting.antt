-- How totals are added: the sum of two, their difference, and bounds under which no sum is too great. Cited
-- by `Totals::of_end`, `of`, `of_item`, `plus` and `less`, by `run_report` and `Tally::report`, and by
-- the law `totals_join`.
use Rattle.std.specs.Prelude.{◌≡◌, ℕ, ◌+◌, ◌^◌, ◌<◌, ◌≤◌, List, [], ◌∷◌, ◌++◌, length, slice_index}
use Rattle.rds_sync.specs.{declared.item.Item.Item, declared.totals.Totals.Totals, Totals.totals_of}

-- each count is the sum of the two
abbrev pub plus : Totals → Totals → Totals
plus t u = record {
  valid = t.valid + u.valid;
  bursts = (slice_index t.bursts 0 + slice_index u.bursts 0)
      ∷ (slice_index t.bursts 1 + slice_index u.bursts 1)
      ∷ (slice_index t.bursts 2 + slice_index u.bursts 2) ∷ (slice_index t.bursts 3 + slice_index u.bursts 3)
      ∷ (slice_index t.bursts 4 + slice_index u.bursts 4) ∷ [];
  lost = t.lost + u.lost;
  bits = t.bits + u.bits;
  groups = t.groups + u.groups;
  complete = t.complete + u.complete;
  acquired = t.acquired + u.acquired;
  losses = t.losses + u.losses;
}

-- the totals that, with those of a part, are those of the whole
pub record IsRest (part whole rest : Totals) : Type 0 where
  pub spans : length rest.bursts ≡ 5
  pub joined : whole ≡ plus part rest

-- the totals of a list are those of its first items together with those of the rest
abbrev pub TotalsJoin : Type 0
TotalsJoin = (first rest : List Item) → IsRest (totals_of first) (totals_of (first ++ rest)) (totals_of rest)

-- no count is above n
pub record IsAtMost (n : ℕ) (t : Totals) : Type 0 where
  pub valid : t.valid ≤ n
  pub burst1 : slice_index t.bursts 0 ≤ n
  pub burst2 : slice_index t.bursts 1 ≤ n
  pub burst3 : slice_index t.bursts 2 ≤ n
  pub burst4 : slice_index t.bursts 3 ≤ n
  pub burst5 : slice_index t.bursts 4 ≤ n
  pub lost : t.lost ≤ n
  pub bits : t.bits ≤ n
  pub groups : t.groups ≤ n
  pub complete : t.complete ≤ n
  pub acquired : t.acquired ≤ n
  pub losses : t.losses ≤ n

-- counts so small that no sum of theirs is too great for a word of 64 bits
abbrev pub FitTogether : Totals → Totals → Type 0
FitTogether t u = (m : ℕ) × (n : ℕ) × (m + n < 2 ^ 64) × IsAtMost m t × IsAtMost n u
