-- The symbols that a stream keeps, the part that they and the next ones are, and the items that are read again in it. The bodies of
-- `SoftStream` cite it, and no public call. This project's rules.
use Rattle.std.specs.Prelude.{◌≡◌, ℕ, ◌+◌, ◌-◌, ◌*◌, ◌^◌, ◌≤◌, List, drop, length}
use Rattle.rds_stream.specs.Recording.{AreGaps, Signal}
use Rattle.rds_sync.specs.declared.{item.Item.Item, state.State.State}
use Rattle.rds_live.specs.Gaps.{gaps_within}
use Rattle.rds_soft.specs.{declared.near.Near.Near, declared.soft_item.SoftItem.SoftItem, declared.soft_item.SoftItem.TheVariants.Acquired, declared.soft_item.SoftItem.TheVariants.Group, declared.soft_item.SoftItem.TheVariants.LostLock, declared.soft_totals.SoftTotals.SoftTotals, ReadAgain.item_again, ReadAgain.symbols_of, SoftStream.SoftTerms, SoftStream.complete, SoftStream.run_of, SoftTotals.AreAtMost, SoftTotals.soft_totals_of, Symbols.hard_bits}

-- how many symbols are kept: those of 239 bits, of which a run may hear 233 before a bit
abbrev pub most_kept : ℕ
most_kept = 240

abbrev pub last_symbols : List ℕ → List ℕ
last_symbols symbols = drop (length symbols - most_kept) symbols

-- the part of a stream that these symbols are, from place d on
abbrev pub part_of : List (ℕ × ℕ) → ℕ → List ℕ → Signal
part_of gaps d symbols = record { bits = hard_bits (symbols_of symbols); gaps = gaps_within gaps d (length symbols - 1) }

-- the place of an item
abbrev pub place_again : SoftItem → ℕ
place_again (Acquired a x) = a
place_again (Group g) = g.place
place_again (LostLock a) = a

-- an item, with all places moved on by d
abbrev pub moved_again : ℕ → SoftItem → SoftItem
moved_again d (Acquired a x) = Acquired (a + d) x
moved_again d (Group g) = Group (record g { place = g.place + d })
moved_again d (LostLock a) = LostLock (a + d)

-- an item of a part from place d on, read again from the part's symbols
abbrev pub again_in : Signal → List ℕ → ℕ → ℕ → Item → SoftItem
again_in part symbols margin d item = moved_again d (item_again part (symbols_of symbols) margin item)

-- the same of a part as the code has it
abbrev pub near_again : Near → Item → SoftItem
near_again near = again_in near.recording near.symbols.items near.margin near.before

-- what a decoder knows once these symbols were heard
pub record Knows (terms : SoftTerms) (symbols kept : List ℕ) (count : ℕ) (state : State) (totals : SoftTotals) : Type 0 where
  pub count_is : count ≡ length symbols
  pub limit : length symbols ≤ 2 ^ 36 + 1
  pub kept_is : kept ≡ last_symbols symbols
  pub state_is : state ≡ (run_of terms symbols).0
  pub totals_are : totals ≡ soft_totals_of (complete terms symbols)
  pub small : AreAtMost (2 ^ 11 * length symbols) totals
  pub gaps : AreGaps (2 ^ 36) terms.gaps
