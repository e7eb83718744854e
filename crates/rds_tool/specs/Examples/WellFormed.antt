-- Worked examples: how many bits an item needs, and which places are in a gap.
use Rattle.std.specs.{Prelude.◌≡◌, Prelude.◌∷◌, Prelude.[], Prelude.false, Prelude.length, Prelude.map, Prelude.refl, Prelude.true, List.range_with_len}
use Rattle.rds_code.specs.declared.{offset.Offset.TheVariants.B, offset.Offset.TheVariants.C, offset.Offset.TheVariants.D, reading.Reading.TheVariants.Lost, reading.Reading.TheVariants.Valid}
use Rattle.rds_sync.specs.{Groups.group_of, Totals.totals_of, declared.item.Block.TheVariants.Missing, declared.item.Block.TheVariants.Read, declared.item.Item.TheVariants.Acquired, declared.item.Item.TheVariants.Group, declared.item.Item.TheVariants.LostLock}
use Rattle.rds_tool.specs.{Listing.named_totals, WellFormed.bits_of_item, WellFormed.is_in_gap}

-- sync is acquired at place 51 by block 2, whose group begins at place 26: its three blocks are read at place 103. One that is lost after its
-- first block ends with that block, as the loss does.
pub needed : map bits_of_item
    (Acquired 51 2
    ∷ Group (group_of 26 (Missing ∷ Read (Valid B 0) ∷ Read (Valid C 0) ∷ Read (Valid D 0) ∷ []))
    ∷ Group (group_of 104 (Read Lost ∷ Missing ∷ Missing ∷ Missing ∷ []))
    ∷ LostLock 129 ∷ [])
    ≡ 52 ∷ 104 ∷ 130 ∷ 130 ∷ []
needed = refl

-- there are twelve totals
pub twelve : length (named_totals (totals_of [])) ≡ 12
twelve = refl

-- a gap is from its first number to before its second
pub in_gaps : map (is_in_gap ((2, 4) ∷ (5, 6) ∷ [])) (range_with_len 0 7)
    ≡ false ∷ false ∷ true ∷ true ∷ false ∷ true ∷ false ∷ []
in_gaps = refl
