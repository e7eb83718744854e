-- Symbols and their listing: the report of their bits, each item read again. This project's rule. `transcribe` writes it, by way of
-- `Outcome`.
use Rattle.std.specs.Prelude.{◌++◌, ◌-◌, ◌^◌, ◌∷◌, ℕ, Bool, Err, List, None, Ok, Option, Result, Some, [], codes, decimal, if◌then◌else◌, length, map, nat_lt, not, slice_index}
use Rattle.std.specs.List.{flat_map, range_with_len}
use Rattle.rds_soft.specs.{Nearest.mask_of, ReadAgain.item_again, ReadAgain.symbols_of, SoftTotals.soft_totals_of, Symbols.hard_bit, declared.soft_item.SoftBlock.SoftBlock, declared.soft_item.SoftBlock.TheVariants.Missing, declared.soft_item.SoftBlock.TheVariants.Read, declared.soft_item.SoftItem.SoftItem, declared.soft_item.SoftItem.TheVariants.Acquired, declared.soft_item.SoftItem.TheVariants.Group, declared.soft_item.SoftItem.TheVariants.LostLock, declared.soft_reading.SoftReading.TheVariants.Corrected, declared.soft_reading.SoftReading.TheVariants.Lost, declared.soft_reading.SoftReading.TheVariants.Valid, declared.soft_totals.SoftTotals.SoftTotals}
use Rattle.rds_stream.specs.Recording.{Signal}
use Rattle.rds_sync.specs.{Report.report_items, Rules.RuleNumbers, declared.item.Item.Item}
use Rattle.rds_sync.specs.declared.item.Item.TheVariants as hard
use Rattle.rds_tool.specs.{Input.may_be_gaps, Listing.hex_digits, Listing.item_row, Listing.kind_text, Listing.row, Listing.total_row, Listing.totals_text, Listing.version_text, Listing.word_text, declared.job.Input.Input}
use Rattle.rds_code.specs.declared.error.RdsError.{RdsError, TheVariants.BadGaps, TheVariants.BitsPastBytes, TheVariants.TooLong}

-- ---- the recording

-- how many bits the recording has: as many as are claimed, or else one fewer than there are symbols
abbrev pub claimed_of : Option ℕ → List ℕ → ℕ
claimed_of (Some bits) symbols = bits
claimed_of None symbols = length symbols - 1

-- the first `bits` bits between the symbols, which are signed bytes, with these gaps
abbrev pub first_bits_of : ℕ → List (ℕ × ℕ) → List ℕ → Result Signal RdsError
first_bits_of bits gaps symbols =
    if nat_lt (2 ^ 36) bits then Err TooLong
    else if nat_lt (length symbols - 1) bits then Err BitsPastBytes
    else if not (may_be_gaps 0 gaps bits) then Err BadGaps
    else Ok (record { bits = map (hard_bit (symbols_of symbols)) (range_with_len 0 bits); gaps = gaps })

-- the recording of symbols; whether the input is hexadecimal text does not matter
abbrev pub recording_of_symbols : Input → List ℕ → Result Signal RdsError
recording_of_symbols input symbols = first_bits_of (claimed_of input.bits symbols) input.gaps symbols

-- ---- rows

-- a block; a corrected one ends in a tilde (126) and its error mask of 26 bits, in seven digits
abbrev pub soft_block_text : SoftBlock → List ℕ
soft_block_text Missing = codes "none"
soft_block_text (Read Lost) = codes "lost"
soft_block_text (Read (Valid offset info)) = word_text offset info
soft_block_text (Read (Corrected offset info flips)) = word_text offset info ++ 126 ∷ hex_digits 7 (mask_of flips)

-- the row of an item, of the form that it has in any listing
abbrev pub soft_row : SoftItem → List ℕ
soft_row (Acquired place number) = item_row (hard.Acquired place number)
soft_row (LostLock place) = item_row (hard.LostLock place)
soft_row (Group group) =
    row (codes "group" ∷ decimal group.place ∷ kind_text group.kind ∷ version_text group.version group.conflict
    ∷ map soft_block_text group.blocks)

-- the corrected blocks by how many symbols were flipped, the last one for six or more
abbrev pub named_flips : SoftTotals → List (List ℕ × ℕ)
named_flips totals =
    (codes "soft1", slice_index totals.flipped 0)
    ∷ (codes "soft2", slice_index totals.flipped 1)
    ∷ (codes "soft3", slice_index totals.flipped 2)
    ∷ (codes "soft4", slice_index totals.flipped 3)
    ∷ (codes "soft5", slice_index totals.flipped 4)
    ∷ (codes "soft6", slice_index totals.flipped 5)
    ∷ []

-- the twelve totals, and then these six
abbrev pub soft_totals_text : SoftTotals → List ℕ
soft_totals_text totals = totals_text totals.totals ++ flat_map total_row (named_flips totals)

-- ---- a whole report

-- the rows of these items, if rows are written, and then those of their totals
abbrev pub soft_report_text : Bool → List SoftItem → List ℕ
soft_report_text has_rows items = (if has_rows then flat_map soft_row items else []) ++ soft_totals_text (soft_totals_of items)

-- the listing of symbols, or only its totals: the rules give the report of their bits, the margin how each item is read again
abbrev pub soft_text : Bool → RuleNumbers → ℕ → List ℕ → Signal → List ℕ
soft_text has_rows rules margin symbols recording =
    soft_report_text has_rows (map (item_again recording (symbols_of symbols) margin) (report_items recording rules))
