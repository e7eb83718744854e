-- How many bits of an input are its recording's.
use Rattle.std.specs.Prelude.{◌≡◌, ℕ, List, [], ◌∷◌, Err, Ok, codes, map, refl, false, true}
use Rattle.hex.specs.Hex.{decode_pairs}
use Rattle.rds_stream.specs.Recording.{Signal, length_of, ungapped}
use Rattle.rds_tool.specs.{Input.and_then, Input.may_be_gaps, Input.recording_of, declared.job.Input.Input, Examples.Words.hex_bits, Examples.Words.hex_input, Examples.Words.raw_bits, Examples.Words.raw_input}
use Rattle.rds_code.specs.declared.error.RdsError.{RdsError, TheVariants.BadGaps, TheVariants.BitsPastBytes, TheVariants.HexText, TheVariants.TooLong}

-- these inputs and bytes are these recordings
abbrev pub AreRecorded : List (Input × List ℕ × Signal) → Type 0
AreRecorded rows = map (λ row. recording_of row.0 row.1) rows ≡ map (λ row. Ok row.2) rows

-- the first bit of a byte is its highest, and without a number all bits are taken
pub recorded : AreRecorded (
    (hex_input, codes "a5", ungapped (1 ∷ 0 ∷ 1 ∷ 0 ∷ 0 ∷ 1 ∷ 0 ∷ 1 ∷ []))
    ∷ (raw_input, 0x80 ∷ [], ungapped (1 ∷ 0 ∷ 0 ∷ 0 ∷ 0 ∷ 0 ∷ 0 ∷ 0 ∷ []))
    ∷ (hex_bits 3, codes "a5", ungapped (1 ∷ 0 ∷ 1 ∷ []))
    ∷ (raw_bits 0, 0xFF ∷ [], ungapped [])
    ∷ (record (raw_bits 3) { gaps = (0, 1) ∷ (1, 3) ∷ [] }, 0x80 ∷ [], record { bits = 1 ∷ 0 ∷ 0 ∷ []; gaps = (0, 1) ∷ (1, 3) ∷ [] })
    ∷ []
    )
unfolding decode_pairs
recorded = refl

-- bytes as they are may well look like digits
pub raw_digits : and_then (recording_of raw_input (codes "a5")) (λ recording. Ok (length_of recording))
    ≡ Ok 16
raw_digits = refl

-- these are refused so
abbrev pub AreRefused : List (Input × List ℕ × RdsError) → Type 0
AreRefused rows = map (λ row. recording_of row.0 row.1) rows ≡ map (λ row. Err row.2) rows

-- 2^36 bits are not too long, but more than these bytes hold; one more is too long first. Text that is no text is refused before its
-- bits are looked at, and gaps are looked at last; no bits have no gaps
pub refused : AreRefused (
    (raw_bits 9, 0xFF ∷ [], BitsPastBytes)
    ∷ (raw_bits 68719476736, [], BitsPastBytes)
    ∷ (raw_bits 68719476737, [], TooLong)
    ∷ (hex_bits 68719476737, codes "0", HexText)
    ∷ (record (raw_bits 0) { gaps = (0, 1) ∷ [] }, [], BadGaps)
    ∷ (record (raw_bits 68719476737) { gaps = (5, 5) ∷ [] }, [], TooLong)
    ∷ (record (raw_bits 9) { gaps = (5, 5) ∷ [] }, 0xFF ∷ [], BitsPastBytes)
    ∷ []
    )
unfolding decode_pairs
refused = refl

-- a gap of no place, one that ends before it begins, one past the end, two out of order, and two that share a place
pub faulty_gaps : map (λ gaps. may_be_gaps 0 gaps 104)
    (((5, 5) ∷ []) ∷ ((6, 5) ∷ []) ∷ ((100, 105) ∷ []) ∷ ((20, 30) ∷ (10, 20) ∷ []) ∷
    ((10, 20) ∷ (15, 30) ∷ []) ∷ [])
    ≡ false ∷ false ∷ false ∷ false ∷ false ∷ []
faulty_gaps = refl

pub lawful_gaps : map (λ gaps. may_be_gaps 0 gaps 104)
    ([] ∷ ((0, 104) ∷ []) ∷ ((10, 20) ∷ (20, 30) ∷ []) ∷ ((103, 104) ∷ []) ∷ [])
    ≡ true ∷ true ∷ true ∷ true ∷ []
lawful_gaps = refl
