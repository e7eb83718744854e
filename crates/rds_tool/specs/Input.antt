-- The recording that an input denotes, or its refusal: this project's rule. `transcribe` decodes it, by way
-- of `Outcome`, and `follow` cites how many bits are claimed.
use Rattle.std.specs.Prelude.{◌*◌, ◌==◌, ◌^◌, ◌||◌, ◌&&◌, ◌∷◌, ℕ, Bool, Err, List, [], None, Ok, Option, Result, Some, if◌then◌else◌, length, nat_le, nat_lt, not, true}
use Rattle.std.specs.List.{filter}
use Rattle.hex.specs.{Hex.decode_of, declared.error.FromHexError.FromHexError}
use Rattle.rds_stream.specs.Recording.{Signal, bits_of}
use Rattle.rds_tool.specs.declared.job.Input.{Input}
use Rattle.rds_code.specs.declared.error.RdsError.{RdsError, TheVariants.BadGaps, TheVariants.BitsPastBytes, TheVariants.HexText, TheVariants.TooLong}

-- the second step, if the first was not refused
abbrev pub and_then : {A B : Type 0} → Result A RdsError → (A → Result B RdsError) → Result B RdsError
and_then (Ok x) step = step x
and_then (Err e) step = Err e

-- space, tab, carriage return and line feed
abbrev pub is_blank : ℕ → Bool
is_blank b = (b == 32) || (b == 9) || (b == 13) || (b == 10)

-- the bytes, or the refusal of text that is not hexadecimal
abbrev pub or_hex_text : Result (List ℕ) FromHexError → Result (List ℕ) RdsError
or_hex_text (Ok bytes) = Ok bytes
or_hex_text (Err e) = Err HexText

-- the bytes of hexadecimal text, in which blanks don't count
abbrev pub decoded : List ℕ → Result (List ℕ) RdsError
decoded text = or_hex_text (decode_of (filter (λ b. not (is_blank b)) text))

-- the bytes of a recording
abbrev pub bytes_of : Input → List ℕ → Result (List ℕ) RdsError
bytes_of input held = if input.hex then decoded held else Ok held

-- how many bits the recording has: as many as are claimed, or else all those of the bytes
abbrev pub claimed : Option ℕ → List ℕ → ℕ
claimed (Some bits) bytes = bits
claimed None bytes = 8 * length bytes

-- whether n bits may have these gaps: each begins at or after the end of the one before it, or `low`, has a place, and ends by n
abbrev pub may_be_gaps : ℕ → List (ℕ × ℕ) → ℕ → Bool
may_be_gaps low [] n = true
may_be_gaps low (gap ∷ gaps) n = nat_le low gap.0 && nat_lt gap.0 gap.1 && nat_le gap.1 n && may_be_gaps gap.1 gaps n

-- the first `bits` bits of the bytes, with these gaps: at most 2^36 bits, and no more than the bytes hold
abbrev pub first_bits : ℕ → List (ℕ × ℕ) → List ℕ → Result Signal RdsError
first_bits bits gaps bytes =
    if nat_lt (2 ^ 36) bits then Err TooLong
    else if nat_lt (8 * length bytes) bits then Err BitsPastBytes
    else if not (may_be_gaps 0 gaps bits) then Err BadGaps
    else Ok (record { bits = bits_of bytes bits; gaps = gaps })

-- the recording, by all bytes that the reader held
abbrev pub recording_of : Input → List ℕ → Result Signal RdsError
recording_of input held = and_then (bytes_of input held) (λ bytes. first_bits (claimed input.bits bytes) input.gaps bytes)
