-- A group whose blocks are read from symbols: its type, version and conflict, as those of a group of hard bits (`Groups` of
-- rds_sync). `SoftBlock::info` and `Search::read_again` cite it.
use Rattle.std.specs.Prelude.{ℕ, ◌-◌, List, Option, Some, None, Bool, false, option_map, slice_index_or}
use Rattle.rds_code.specs.declared.reading.Wanted.{Wanted, TheVariants.OnlyC, TheVariants.OnlyCx, TheVariants.Either}
use Rattle.rds_sync.specs.{declared.item.Version.Version, declared.item.Version.TheVariants.A, declared.item.Version.TheVariants.B, declared.item.Version.TheVariants.Unknown, Groups.type_in, Groups.version_of_bit, Groups.version_of_offset, Groups.first_known, Groups.differ}
use Rattle.rds_soft.specs.declared.{soft_reading.SoftReading.TheVariants.Valid, soft_reading.SoftReading.TheVariants.Corrected, soft_item.SoftBlock.SoftBlock, soft_item.SoftBlock.TheVariants.Missing, soft_item.SoftBlock.TheVariants.Read, soft_item.SoftGroup.SoftGroup}

-- the information word of a block that is valid or corrected
abbrev pub info_of : SoftBlock → Option ℕ
info_of (Read (Valid o info)) = Some info
info_of (Read (Corrected o info flips)) = Some info
info_of block = None

-- the version by block 2, if that is valid or corrected
abbrev pub version_by_bit : SoftBlock → Version
version_by_bit second = elim (info_of second) [ None ↦ Unknown | Some info ↦ version_of_bit info ]

-- the version by blocks 2 and 3: by a valid block 3; else by bit B0 of block 2; else by a corrected block 3
abbrev pub version : SoftBlock → SoftBlock → Version
version second (Read (Valid o info)) = version_of_offset o
version second (Read (Corrected o info flips)) = first_known (version_by_bit second) (version_of_offset o)
version second third = version_by_bit second

-- whether a valid block 3 says the one version, and block 2 the other
abbrev pub in_conflict : SoftBlock → SoftBlock → Bool
in_conflict second (Read (Valid o info)) = differ (version_by_bit second) (version_of_offset o)
in_conflict second third = false

-- the offsets that are tried for block 3 of a group with this block 2
abbrev pub wanted_beside : SoftBlock → Wanted
wanted_beside second = elim (version_by_bit second) [ A ↦ OnlyC | B ↦ OnlyCx | Unknown ↦ Either ]

-- block y of these blocks of a group
abbrev pub block_in : List SoftBlock → ℕ → SoftBlock
block_in blocks y = slice_index_or blocks (y - 1) Missing

-- the group of these four blocks, whose first bit that was read is at this place
abbrev pub group_of : ℕ → List SoftBlock → SoftGroup
group_of place blocks = record {
  place = place;
  blocks = blocks;
  kind = option_map type_in (info_of (block_in blocks 2));
  version = version (block_in blocks 2) (block_in blocks 3);
  conflict = in_conflict (block_in blocks 2) (block_in blocks 3);
}
