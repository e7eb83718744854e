-- A list of items that were read again, which keeps a group of four valid blocks as its place and its information words: this project's
-- rule. The calls of `SoftList` cite it.
use Rattle.std.specs.Prelude.{ℕ, ◌-◌, [], ◌∷◌, slice_index_or}
use Rattle.rds_code.specs.declared.offset.Offset.{Offset}
use Rattle.rds_code.specs.declared.offset.Offset.TheVariants as offset
use Rattle.rds_sync.specs.declared.item.Version.TheVariants as version
use Rattle.rds_sync.specs.Groups.{version_of_bit}
use Rattle.rds_soft.specs.{SoftGroups.group_of, declared.soft_item.SoftBlock.SoftBlock, declared.soft_item.SoftBlock.TheVariants.Read, declared.soft_item.SoftGroup.SoftGroup, declared.soft_item.SoftItem.SoftItem, declared.soft_item.SoftItem.TheVariants.Group, declared.soft_list.Listed.Listed, declared.soft_list.Listed.TheVariants.Other, declared.soft_list.Listed.TheVariants.Valid, declared.soft_list.ValidGroup.ValidGroup, declared.soft_reading.SoftReading.TheVariants.Valid as ValidReading}

-- the information word of block y
abbrev pub word : ValidGroup → ℕ → ℕ
word group y = slice_index_or group.words (y - 1) 0

-- the offset of block 3 of the version that this information word of block 2 names
abbrev pub third_offset : ℕ → Offset
third_offset second = elim (version_of_bit second) [ version.A ↦ offset.C | version.B ↦ offset.Cx | version.Unknown ↦ offset.C ]

abbrev pub valid_block : Offset → ℕ → SoftBlock
valid_block o info = Read (ValidReading o info)

-- the group whose four blocks are valid and have these words
abbrev pub valid_group : ValidGroup → SoftGroup
valid_group group = group_of group.place
    (valid_block offset.A (word group 1) ∷ valid_block offset.B (word group 2)
    ∷ valid_block (third_offset (word group 2)) (word group 3) ∷ valid_block offset.D (word group 4) ∷ [])

abbrev pub item_of : Listed → SoftItem
item_of (Valid group) = Group (valid_group group)
item_of (Other item) = item
