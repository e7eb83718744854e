-- A report read again from the symbols of its recording: this project's rule of soft decisions. `Search::read` returns a reading, and
-- `Search::read_again` an item. The law `symbols_are_read_so` promises that the reading is the one that the rule allows.
use Rattle.std.specs.Prelude.{◌==◌, ℕ, ◌+◌, ◌-◌, ◌*◌, List, [], ◌∷◌, Option, Some, None, length, take, drop, sum_by, nat_lt, not, ◌&&◌, if◌then◌else◌, bit_xor, min, map, ℤ}
use Rattle.std.specs.Int.{cast_signed, w8}
use Rattle.rds_code.specs.{declared.offset.Offset.Offset, declared.offset.Offset.TheVariants.A, declared.offset.Offset.TheVariants.B, declared.offset.Offset.TheVariants.C, declared.offset.Offset.TheVariants.Cx, declared.offset.Offset.TheVariants.D, declared.reading.Reading.TheVariants.Valid, declared.reading.Wanted.Wanted, declared.reading.Wanted.TheVariants.OnlyC, declared.reading.Wanted.TheVariants.OnlyCx, declared.reading.Wanted.TheVariants.Either, Remainder.rem, Offsets.offset_of, Offsets.word, Offsets.number, Reading.information}
use Rattle.rds_stream.specs.Recording.{Signal, length_of, touched}
use Rattle.rds_sync.specs.{declared.item.Block.Block, declared.item.Block.TheVariants.Missing, declared.item.Block.TheVariants.Read, declared.item.Item.Item, declared.item.Item.TheVariants.Acquired, declared.item.Item.TheVariants.Group, declared.item.Item.TheVariants.LostLock, Groups.block_in}
use Rattle.rds_soft.specs.{declared.correction.Correction.Correction, declared.nearest.Turn.Turn, declared.soft_reading.SoftReading.SoftReading, declared.soft_item.SoftBlock.SoftBlock, declared.soft_item.SoftGroup.SoftGroup, declared.soft_item.SoftItem.SoftItem, Inside.Lightest.effect, Inside.Lightest.confidence, Inside.Lightest.least, Inside.Lightest.lightest, Inside.Lightest.second, Nearest.mask_of, Nearest.top, SoftGroups.wanted_beside, SoftGroups.group_of, Symbols.confidences, Symbols.hard_window}
use Rattle.rds_soft.specs.declared.soft_reading.SoftReading.TheVariants as Soft
use Rattle.rds_soft.specs.declared.soft_item.SoftBlock.TheVariants as Again
use Rattle.rds_soft.specs.declared.soft_item.SoftItem.TheVariants as InSoft

-- symbols as bytes: each is a signed byte
abbrev pub symbols_of : List ℕ → List ℤ
symbols_of bytes = map (cast_signed w8) bytes

-- ---- the correction

-- the lightest flips that turn a window into a block with this offset, their weight, and the least weight of any others
abbrev pub turn_to : ℕ → List ℕ → Offset → Turn
turn_to w cs o = let s : ℕ = bit_xor (rem w) (word o) in record {
  offset = o;
  flips = lightest effect (confidence cs) 27 s;
  weight = least effect (confidence cs) 27 s;
  others = second effect (confidence cs) 27 s;
}

-- the lighter of two, to which the heavier is a rival
abbrev pub lighter : Turn → Turn → Turn
lighter t u =
    if nat_lt u.weight t.weight then record u { others = min u.others t.weight } else record t { others = min t.others u.weight }

abbrev pub turn_third : ℕ → Wanted → List ℕ → Turn
turn_third w OnlyC cs = turn_to w cs C
turn_third w OnlyCx cs = turn_to w cs Cx
turn_third w Either cs = lighter (turn_to w cs C) (turn_to w cs Cx)

-- the lightest turn of w into block x
abbrev pub turn_of : ℕ → ℕ → Wanted → List ℕ → Turn
turn_of w x wanted cs =
    if x == 1 then turn_to w cs A
    else if x == 2 then turn_to w cs B
    else if x == 4 then turn_to w cs D
    else turn_third w wanted cs

-- the turn, if it is within the top and the margin
abbrev pub within : Turn → ℕ → Option Correction
within t margin =
    if nat_lt top t.weight then None
    else if nat_lt t.others (t.weight + margin) then None
    else Some (record { offset = t.offset; flips = t.flips })

unfoldable pub correction : ℕ → ℕ → Wanted → List ℕ → ℕ → Option Correction
correction w x wanted cs margin = within (turn_of w x wanted cs) margin

-- ---- readings

abbrev pub reading_by : ℕ → Option Correction → SoftReading
reading_by w None = Soft.Lost
reading_by w (Some c) = Soft.Corrected c.offset (information (bit_xor w (mask_of c.flips))) c.flips

-- the offset of a window, if it is one of block x
abbrev pub own_of : Option Offset → ℕ → Option Offset
own_of None x = None
own_of (Some o) x = if number o == x then Some o else None

abbrev pub reading_or : ℕ → Option Offset → SoftReading → SoftReading
reading_or w None other = other
reading_or w (Some o) other = Soft.Valid o (information w)

-- 27 symbols, read as block x
unfoldable pub soft_reading : List ℤ → ℕ → Wanted → ℕ → SoftReading
soft_reading symbols x wanted margin =
    reading_or (hard_window symbols) (own_of (offset_of (rem (hard_window symbols))) x)
    (reading_by (hard_window symbols) (correction (hard_window symbols) x wanted (confidences symbols) margin))

-- the reading of block x from the symbols heard, if any
abbrev pub reading_heard : Option (List ℤ) → ℕ → Wanted → ℕ → SoftReading
reading_heard None x wanted margin = Soft.Lost
reading_heard (Some symbols) x wanted margin = soft_reading symbols x wanted margin

-- ---- items

-- the 27 symbols of the block whose first bit is at this place: none if it touches a gap, or ends past the recording or its symbols
abbrev pub symbols_heard : Signal → List ℤ → ℕ → Option (List ℤ)
symbols_heard b symbols first =
    if nat_lt (first + 25) (length_of b) && not (touched b (first + 25)) && nat_lt (first + 26) (length symbols)
    then Some (take 27 (drop first symbols))
    else None

-- a block that was read: a valid one stays as it is, any other is read from its symbols
abbrev pub block_again : Option (List ℤ) → ℕ → Wanted → ℕ → Block → SoftBlock
block_again heard x wanted margin Missing = Again.Missing
block_again heard x wanted margin (Read (Valid o info)) = Again.Read (Soft.Valid o info)
block_again heard x wanted margin (Read hard) = Again.Read (reading_heard heard x wanted margin)

-- 1 if the block was read
abbrev pub was_read : Block → ℕ
was_read Missing = 0
was_read (Read hard) = 1

-- the place of the first bit of block y, if it was read, in a group of these blocks whose first read bit is at `place`
abbrev pub first_bit : ℕ → List Block → ℕ → ℕ
first_bit place blocks y = place + 26 * sum_by was_read (take (y - 1) blocks)

-- a group of these blocks, read again block by block: block 2 before block 3, as it says which offsets are tried there
abbrev pub group_again : Signal → List ℤ → ℕ → ℕ → List Block → SoftGroup
group_again b symbols margin place blocks =
    let heard : ℕ → Option (List ℤ) = λ y. symbols_heard b symbols (first_bit place blocks y) in
    let two : SoftBlock = block_again (heard 2) 2 Either margin (block_in blocks 2) in
    group_of place
    (block_again (heard 1) 1 Either margin (block_in blocks 1) ∷ two
    ∷ block_again (heard 3) 3 (wanted_beside two) margin (block_in blocks 3)
    ∷ block_again (heard 4) 4 Either margin (block_in blocks 4) ∷ [])

-- an item of the soft listing: groups are read again, acquisitions and losses stay as they are
unfoldable pub item_again : Signal → List ℤ → ℕ → Item → SoftItem
item_again b symbols margin (Acquired place number) = InSoft.Acquired place number
item_again b symbols margin (LostLock place) = InSoft.LostLock place
item_again b symbols margin (Group g) = InSoft.Group (group_again b symbols margin g.place g.blocks)
