-- The facts of a group, read off its blocks one by one: the place of each, the type, the version, whether two
-- versions are in conflict. Cited by the law `groups_are_read`.
--
-- The places of the blocks, the type and bit B0 are those of EN 50067:1998, 2.1 and 3.1.2; which of two versions holds, and when they
-- are in conflict, is this project's rule.
use Rattle.std.specs.Prelude.{◌≡◌, ◌≢◌, ◌↔◌, ℕ, ◌+◌, ◌-◌, ◌*◌, ◌<◌, ◌≤◌, ◌⊎◌, Some, None, IsTrue, length, slice_get, option_map}
use Rattle.rds_code.specs.declared.{offset.Offset.Offset, offset.Offset.TheVariants.C, offset.Offset.TheVariants.Cx, reading.Reading.TheVariants.Valid, reading.Reading.TheVariants.Corrected}
use Rattle.rds_stream.specs.Recording.{Signal, reading_at}
use Rattle.rds_sync.specs.{declared.item.Version.Version, declared.item.Version.TheVariants.A, declared.item.Version.TheVariants.B, declared.item.Version.TheVariants.Unknown, declared.item.Block.Block, declared.item.Block.TheVariants.Missing, declared.item.Block.TheVariants.Read, declared.item.Group.Group, Lawful.HaveRoom, Rules.RuleNumbers, Groups.info_of, Groups.type_in, Groups.version_of_bit, Groups.version_of_offset, Groups.are_complete, Groups.wanted_beside, Groups.group}

-- block y of the group is this
abbrev pub IsBlock : Group → ℕ → Block → Type 0
IsBlock group y block = slice_get group.blocks (y - 1) ≡ Some block

-- block y of those from `first` to `last` ends 26 (last - y) places before the last, which ends at this place; the others are missing
pub record BlocksAreRead (b : Signal) (rules : RuleNumbers) (first last place : ℕ) (group : Group)
    (second : Block) : Type 0 where
  pub four : length group.blocks ≡ 4
  pub begins : group.place + 26 * (last - first) + 25 ≡ place
  pub read : (y : ℕ) → first ≤ y → y ≤ last
      → IsBlock group y (Read (reading_at b (place - 26 * (last - y)) y (wanted_beside second) rules.burst))
  pub missing : (y : ℕ) → 1 ≤ y → y ≤ 4 → (y < first) ⊎ (last < y) → IsBlock group y Missing

-- the version is that of a valid block 3; else that of bit B0, if block 2 has an information word; else that
-- of a corrected block 3; else it is unknown
pub record VersionIsRead (version : Version) (second third : Block) : Type 0 where
  pub valid_c : (info : ℕ) → third ≡ Read (Valid C info) → version ≡ A
  pub valid_cx : (info : ℕ) → third ≡ Read (Valid Cx info) → version ≡ B
  pub no_other : (o : Offset) (info : ℕ) → third ≡ Read (Valid o info) → (o ≡ C) ⊎ (o ≡ Cx)
  pub by_bit : ((o : Offset) (info : ℕ) → third ≢ Read (Valid o info)) → (word : ℕ)
      → info_of second ≡ Some word
      → version ≡ version_of_bit word
  pub corrected_c : info_of second ≡ None → (info burst : ℕ) → third ≡ Read (Corrected C info burst)
      → version ≡ A
  pub corrected_cx : info_of second ≡ None → (info burst : ℕ) → third ≡ Read (Corrected Cx info burst)
      → version ≡ B
  pub unknown : info_of second ≡ None → info_of third ≡ None → version ≡ Unknown

-- a valid block 3 is of the one version, and block 2 has an information word that says the other
abbrev pub VersionsDiffer : Block → Block → Type 0
VersionsDiffer second third = (o : Offset) × (info : ℕ) × (word : ℕ)
    × (third ≡ Read (Valid o info)) × (info_of second ≡ Some word)
    × (version_of_offset o ≢ version_of_bit word)

-- the facts of the group follow from its blocks `first` to `last`, of which the last ends at this place
pub record GroupIsRead (b : Signal) (rules : RuleNumbers) (first last place : ℕ)
    (group : Group) : Type 0 where
  pub second : Block
  pub third : Block
  pub is_second : IsBlock group 2 second
  pub is_third : IsBlock group 3 third
  pub blocks : BlocksAreRead b rules first last place group second
  pub kind : group.kind ≡ option_map type_in (info_of second)
  pub version : VersionIsRead group.version second third
  pub conflict : IsTrue group.conflict ↔ VersionsDiffer second third
  pub complete : IsTrue (are_complete group.blocks)
      ↔ ((y : ℕ) → 1 ≤ y → y ≤ 4 → (block : Block) × (word : ℕ) × IsBlock group y block
      × (info_of block ≡ Some word))

-- a group agrees with its blocks
abbrev pub GroupsAreRead : Type 0
GroupsAreRead = (b : Signal) (rules : RuleNumbers) (first last place : ℕ) → 1 ≤ first → first ≤ last
    → last ≤ 4
    → HaveRoom first last place → GroupIsRead b rules first last place (group b rules first last place)
