-- The calls for single blocks and groups: a remainder, a correction, the bytes of groups. `remainder`,
-- `correct` and `encode` cite it. This project's rules.
use Rattle.std.specs.Prelude.{◌≡◌, ◌≢◌, ℕ, ◌*◌, ◌+◌, ◌^◌, ◌<◌, ◌≤◌, ◌==◌, List, Option, None, Some, drop, slice_index, if◌then◌else◌, ⊤}
use Rattle.std.specs.Int.{to_be_bytes, w128}
use Rattle.rds_code.specs.{Encoding.encoded_group, declared.reading.Wanted.Wanted, declared.reading.Wanted.TheVariants.OnlyC, declared.reading.Wanted.TheVariants.OnlyCx, declared.reading.Wanted.TheVariants.Either}
use Rattle.rds_abi.specs.declared.{layout.RdsPacked.RdsPacked, layout.RdsWords.RdsWords, refusal.Refusal.Refusal, refusal.Refusal.TheVariants.BlockRange, refusal.Refusal.TheVariants.BurstRange, refusal.Refusal.TheVariants.OffsetRange, refusal.Refusal.TheVariants.OutOfMemory}

-- ---- a correction

-- the block that an offset's number asks for, and which offsets are tried for it: 1 is A, 2 B, 3 C, 4 C', 5 D, and 6 C or C'
abbrev pub block_wanted : ℕ → Option (ℕ × Wanted)
block_wanted offset =
    if offset == 1 then Some (1, Either)
    else if offset == 2 then Some (2, Either)
    else if offset == 3 then Some (3, OnlyC)
    else if offset == 4 then Some (3, OnlyCx)
    else if offset == 5 then Some (4, Either)
    else if offset == 6 then Some (3, Either)
    else None

-- a word of more than 26 bits, then a number of no offset, then a limit above 5
abbrev pub RefusesCorrection : ℕ → ℕ → ℕ → Refusal → Type 0
RefusesCorrection w offset limit BlockRange = 2 ^ 26 ≤ w
RefusesCorrection w offset limit OffsetRange = (w < 2 ^ 26) × (block_wanted offset ≡ None)
RefusesCorrection w offset limit BurstRange = (w < 2 ^ 26) × (block_wanted offset ≢ None) × (5 < limit)
RefusesCorrection w offset limit OutOfMemory = ⊤
RefusesCorrection w offset limit other = ⊥

-- ---- groups

-- the bits of four blocks, one block after the other, as a number of 104 bits
abbrev pub joined : List ℕ → ℕ
joined blocks = ((slice_index blocks 0 * 2 ^ 26 + slice_index blocks 1) * 2 ^ 26 + slice_index blocks 2) * 2 ^ 26 + slice_index blocks 3

-- the 13 bytes of a group, the first bit highest
abbrev pub packed : RdsWords → RdsPacked
packed group = record { bytes = drop 3 (to_be_bytes w128 (joined (encoded_group group.words))) }
