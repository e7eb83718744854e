-- The rows of a listing, as bytes: this project's rule. `transcribe` and `follow` write them, by way of `Outcome` and
-- `Following`.
use Rattle.std.specs.Prelude.{◌++◌, ◌/◌, ◌%◌, ◌∷◌, ℕ, Bool, List, None, Option, Some, [], codes, decimal, false, map, slice_index, suc, true, zero}
use Rattle.std.specs.List.{flat_map, join_with_byte}
use Rattle.hex.specs.Hex.{upper_digits}
use Rattle.rds_code.specs.{Offsets.name, declared.offset.Offset.Offset, declared.reading.Reading.TheVariants.Corrected, declared.reading.Reading.TheVariants.Lost, declared.reading.Reading.TheVariants.Valid}
use Rattle.rds_stream.specs.Recording.{Signal, length_of, valid_windows}
use Rattle.rds_sync.specs.declared.{item.Block.Block, item.Block.TheVariants.Missing, item.Block.TheVariants.Read, item.Item.Item, item.Item.TheVariants.Acquired, item.Item.TheVariants.Group, item.Item.TheVariants.LostLock, item.Version.Version, item.Version.TheVariants.A, item.Version.TheVariants.B, item.Version.TheVariants.Unknown, totals.Totals.Totals}

-- ---- rows

-- fields joined by commas and ended by one line feed
abbrev pub row : List (List ℕ) → List ℕ
row fields = join_with_byte 44 fields ++ 10 ∷ []

-- a field that says nothing
abbrev pub dash : List ℕ
dash = codes "-"

-- ---- the valid windows

-- a valid window: its place and its offset
abbrev pub window_row : ℕ × Offset → List ℕ
window_row w = row (decimal w.0 ∷ name w.1 ∷ [])

-- the rows of the valid windows of a recording, by rising place
abbrev pub scan_text : Signal → List ℕ
scan_text recording = flat_map window_row (valid_windows recording 0 (length_of recording))

-- ---- the fields of a group

-- the lowest `width` hexadecimal digits of a number, highest first, in upper case
abbrev pub hex_digits : ℕ → ℕ → List ℕ
hex_digits zero n = []
hex_digits (suc width) n = hex_digits width (n / 16) ++ slice_index upper_digits (n % 16) ∷ []

-- a valid or corrected block: its offset, a colon (58) and its information word
abbrev pub word_text : Offset → ℕ → List ℕ
word_text offset info = name offset ++ 58 ∷ hex_digits 4 info

-- a block; a corrected one ends in a tilde (126) and its error mask of 26 bits, in seven digits
abbrev pub block_text : Block → List ℕ
block_text Missing = codes "none"
block_text (Read Lost) = codes "lost"
block_text (Read (Valid offset info)) = word_text offset info
block_text (Read (Corrected offset info burst)) = word_text offset info ++ 126 ∷ hex_digits 7 burst

-- a group's type, if it is known
abbrev pub kind_text : Option ℕ → List ℕ
kind_text None = dash
kind_text (Some kind) = decimal kind

-- a group's version, if it is known, and whether its blocks are in conflict over it
abbrev pub version_text : Version → Bool → List ℕ
version_text A false = codes "A"
version_text A true = codes "A!"
version_text B false = codes "B"
version_text B true = codes "B!"
version_text Unknown conflict = codes "?"

-- ---- the items of a report

-- the eight fields of an item; unused ones are dashes
abbrev pub item_fields : Item → List (List ℕ)
item_fields (Acquired place number) = codes "acquired" ∷ decimal place ∷ decimal number ∷ dash ∷ dash ∷ dash ∷ dash ∷ dash ∷ []
item_fields (LostLock place) = codes "lost" ∷ decimal place ∷ dash ∷ dash ∷ dash ∷ dash ∷ dash ∷ dash ∷ []
item_fields (Group group) =
    codes "group" ∷ decimal group.place ∷ kind_text group.kind ∷ version_text group.version group.conflict ∷ map block_text group.blocks

abbrev pub item_row : Item → List ℕ
item_row item = row (item_fields item)

-- ---- the totals

-- the row of a total, which has eight fields too
abbrev pub total_row : List ℕ × ℕ → List ℕ
total_row total = row (codes "total" ∷ total.0 ∷ decimal total.1 ∷ dash ∷ dash ∷ dash ∷ dash ∷ dash ∷ [])

-- the twelve totals, each with its name
abbrev pub named_totals : Totals → List (List ℕ × ℕ)
named_totals totals =
    (codes "valid", totals.valid)
    ∷ (codes "burst1", slice_index totals.bursts 0)
    ∷ (codes "burst2", slice_index totals.bursts 1)
    ∷ (codes "burst3", slice_index totals.bursts 2)
    ∷ (codes "burst4", slice_index totals.bursts 3)
    ∷ (codes "burst5", slice_index totals.bursts 4)
    ∷ (codes "lost", totals.lost)
    ∷ (codes "bits", totals.bits)
    ∷ (codes "groups", totals.groups)
    ∷ (codes "complete", totals.complete)
    ∷ (codes "acquired", totals.acquired)
    ∷ (codes "losses", totals.losses)
    ∷ []

abbrev pub totals_text : Totals → List ℕ
totals_text totals = flat_map total_row (named_totals totals)

-- ---- a whole report

-- the items in order, and then the totals
abbrev pub report_text : List Item → Totals → List ℕ
report_text items totals = flat_map item_row items ++ totals_text totals
