-- The layout of totals, blocks and items in C: plain numbers only. Each call that writes some cites it. This project's rules.
use Rattle.std.specs.Prelude.{Bool, List, ℕ, map, replicate, Option, None, Some, if◌then◌else◌}
use Rattle.rds_code.specs.declared.{offset.Offset.Offset, reading.Reading.Reading, reading.Reading.TheVariants.Valid, reading.Reading.TheVariants.Corrected, reading.Reading.TheVariants.Lost}
use Rattle.rds_code.specs.declared.offset.Offset.TheVariants as offset
use Rattle.rds_sync.specs.declared.{item.Block.Block, item.Block.TheVariants.Missing, item.Block.TheVariants.Read, item.Item.Item, item.Item.TheVariants.Acquired, item.Item.TheVariants.Group, item.Item.TheVariants.LostLock, item.Version.Version, item.Version.TheVariants.A, item.Version.TheVariants.B, item.Version.TheVariants.Unknown, totals.Totals.Totals}
use Rattle.rds_soft.specs.{declared.soft_reading.SoftReading.SoftReading, declared.soft_item.SoftBlock.SoftBlock, declared.soft_item.SoftBlock.TheVariants.Missing as SoftMissing, declared.soft_item.SoftBlock.TheVariants.Read as SoftRead, declared.soft_item.SoftItem.SoftItem, declared.soft_item.SoftItem.TheVariants.Acquired as SoftAcquired, declared.soft_item.SoftItem.TheVariants.Group as InSoft, declared.soft_item.SoftItem.TheVariants.LostLock as SoftLostLock, Nearest.mask_of}
use Rattle.rds_soft.specs.declared.soft_reading.SoftReading.TheVariants as Soft
use Rattle.rds_abi.specs.declared.layout.{RdsBlock.RdsBlock, RdsItem.RdsItem, RdsTotals.RdsTotals}

-- totals, field by field
abbrev pub totals_in_c : Totals → RdsTotals
totals_in_c t = record {
  valid = t.valid;
  bursts = t.bursts;
  lost = t.lost;
  bits = t.bits;
  groups = t.groups;
  complete = t.complete;
  acquired = t.acquired;
  losses = t.losses;
  reserved = replicate 4 0;
}

-- ---- a block

-- an offset: 0 is none
abbrev pub offset_in_c : Offset → ℕ
offset_in_c offset.A = 1
offset_in_c offset.B = 2
offset_in_c offset.C = 3
offset_in_c offset.Cx = 4
offset_in_c offset.D = 5

-- a reading: 1 is lost, 2 valid, 3 corrected
abbrev pub reading_in_c : Reading → RdsBlock
reading_in_c Lost = record { burst = 0; info = 0; kind = 1; offset = 0 }
reading_in_c (Valid o info) = record { burst = 0; info = info; kind = 2; offset = offset_in_c o }
reading_in_c (Corrected o info e) = record { burst = e; info = info; kind = 3; offset = offset_in_c o }

-- a block: all 0 if it is missing
abbrev pub no_block : RdsBlock
no_block = record { burst = 0; info = 0; kind = 0; offset = 0 }

abbrev pub block_in_c : Block → RdsBlock
block_in_c Missing = no_block
block_in_c (Read reading) = reading_in_c reading

-- ---- an item

-- a version
abbrev pub version_in_c : Version → ℕ
version_in_c A = 1
version_in_c B = 2
version_in_c Unknown = 3

-- a group's type: 255 is unknown
abbrev pub kind_in_c : Option ℕ → ℕ
kind_in_c None = 255
kind_in_c (Some kind) = kind

-- a group: 2, with its type
abbrev pub group_in_c : ℕ → List RdsBlock → Option ℕ → Version → Bool → RdsItem
group_in_c place blocks kind version conflict = record {
  place = place;
  blocks = blocks;
  what = 2;
  number = kind_in_c kind;
  version = version_in_c version;
  conflict = if conflict then 1 else 0;
  unused = 0;
}

-- an acquisition, with the number of its block, or a loss
abbrev pub mark_in_c : ℕ → ℕ → ℕ → RdsItem
mark_in_c place what number =
    record { place = place; blocks = replicate 4 no_block; what = what; number = number; version = 0; conflict = 0; unused = 0 }

-- an item: 1 is an acquisition, 2 a group, 3 a loss
abbrev pub item_in_c : Item → RdsItem
item_in_c (Acquired a x) = mark_in_c a 1 x
item_in_c (Group g) = group_in_c g.place (map block_in_c g.blocks) g.kind g.version g.conflict
item_in_c (LostLock a) = mark_in_c a 3 0

-- ---- read again from symbols: a corrected block has the mask of its flips

abbrev pub soft_reading_in_c : SoftReading → RdsBlock
soft_reading_in_c Soft.Lost = record { burst = 0; info = 0; kind = 1; offset = 0 }
soft_reading_in_c (Soft.Valid o info) = record { burst = 0; info = info; kind = 2; offset = offset_in_c o }
soft_reading_in_c (Soft.Corrected o info flips) = record { burst = mask_of flips; info = info; kind = 3; offset = offset_in_c o }

abbrev pub soft_block_in_c : SoftBlock → RdsBlock
soft_block_in_c SoftMissing = no_block
soft_block_in_c (SoftRead reading) = soft_reading_in_c reading

abbrev pub soft_item_in_c : SoftItem → RdsItem
soft_item_in_c (InSoft g) = group_in_c g.place (map soft_block_in_c g.blocks) g.kind g.version g.conflict
soft_item_in_c (SoftAcquired a x) = item_in_c (Acquired a x)
soft_item_in_c (SoftLostLock a) = item_in_c (LostLock a)
