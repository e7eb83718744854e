-- Following a stream: the rows that are written as it comes, and those that were written if it breaks off; this project's
-- rule. `follow` promises it of bits, and `follow_soft` of symbols.
use Rattle.std.specs.Prelude.{◌++◌, ◌≡◌, ◌≢◌, ◌≤◌, ◌<◌, ◌+◌, ◌-◌, ◌*◌, ◌^◌, ◌⊎◌, ◌↔◌, [], ⊤, ℕ, Bool, IfErr, IsErrOf, List, None, Ok, OnOk, Option, Result, Some, length, max, min, true}
use Rattle.std.specs.{List.flat_map, Io.KnownBytes.Appends, Io.KnownBytes.Consumes, Io.KnownBytes.IsAtEnd}
use Rattle.rds_live.specs.StreamDecoder.{Terms, complete, signal_at}
use Rattle.rds_rows.specs.declared.sink.Sink.{Ghosts as Sink}
use Rattle.rds_stream.specs.Recording.{AreGaps}
use Rattle.rds_tool.specs.{History.Gave, Input.and_then, Input.claimed, Input.first_bits, Listing.item_row, Outcome.Writes, Outcome.list_text, declared.devices.Source.Ghosts as Source}
use Rattle.rds_code.specs.declared.error.RdsError.{RdsError, TheVariants.BadGaps, TheVariants.BitsPastBytes, TheVariants.OutOfMemory, TheVariants.Read, TheVariants.TooLong, TheVariants.Write}

-- ---- any stream

-- a stream of symbols, bytes too: how many bits one more symbol has, and how many these have; the number of bits that is claimed, if any,
-- and the gaps; the most symbols that one read gives; the rows of the items that are complete once these symbols were heard; the listing
-- of the bits that count of these symbols, and the outcome of a list of them: that text, or the refusal
pub record Stream : Type 0 where
  pub step : ℕ
  pub size : List ℕ → ℕ
  pub claim : Option ℕ
  pub gaps : List (ℕ × ℕ)
  pub most : ℕ
  pub rows : List ℕ → List ℕ
  pub text : List ℕ → List ℕ
  pub listed : List ℕ → Result (List ℕ) RdsError

-- more bits are claimed than a recording may have
abbrev pub IsLong : Option ℕ → Type 0
IsLong None = ⊥
IsLong (Some bits) = 2 ^ 36 < bits

-- how many bits the recording has: as many as are claimed, or else all of them
abbrev pub claim_or : Option ℕ → ℕ → ℕ
claim_or None all = all
claim_or (Some bits) all = bits

-- all bits that count came: the reader answered its end, or just the symbols of the bits that count were read
abbrev pub HasAll : Option ℕ → ℕ → ℕ → Bool → Type 0
HasAll None step size ended = ended ≡ true
HasAll (Some n) step size ended = (n ≤ size) × (size < n + step)

-- all bits that were heard count, and with the last read just the symbols of the bits that count were read, at most
abbrev pub AreAsked : Option ℕ → ℕ → ℕ → ℕ → Type 0
AreAsked None step heard all = ⊤
AreAsked (Some n) step heard all = (heard ≤ n) × (all < n + step)

-- fewer bits came than are claimed
abbrev pub IsShort : Option ℕ → ℕ → Type 0
IsShort None size = ⊥
IsShort (Some n) size = size < n

-- the last call was a flush that succeeded, if these bytes are any
abbrev pub IsFlushedAfter : List ℕ → Bool → Type 0
IsFlushedAfter bytes flushed = (bytes ≡ []) ⊎ (flushed ≡ true)

-- why following may break off
abbrev pub MayBreakOff : RdsError → Type 0
MayBreakOff e = (e ≡ OutOfMemory) ⊎ ((e ≡ Read) ⊎ ((e ≡ Write) ⊎ ((e ≡ TooLong) ⊎ ((e ≡ BitsPastBytes) ⊎ (e ≡ BadGaps)))))

-- what the reader had given before and then, and whether it last answered its end; the writer's contents before and then, and whether its
-- last call was a flush that succeeded
module _ (s : Stream) (given given' : List ℕ) (ended : Bool) (old new : Option (List ℕ)) (flushed : Bool) where
  -- a stream was followed to its end: just the symbols of the bits that count were read, and the text that a list makes of them was written
  pub record IsFollowed : Type 0 where
    pub symbols : List ℕ
    pub gave : given' ≡ given ++ symbols
    pub all : HasAll s.claim s.step (s.size symbols) ended
    pub text : Writes old new (s.listed symbols)
    pub flush : flushed ≡ true

  -- following broke off by this error, after these symbols and those of the last read
  pub record BreaksOff (e : RdsError) : Type 0 where
    pub heard : List ℕ
    pub last : List ℕ
    pub few : length last ≤ s.most
    pub gave : given' ≡ given ++ (heard ++ last)
    pub asked : AreAsked s.claim s.step (s.size heard) (s.size (heard ++ last))
    -- if a read fails, the rows that are complete were taken and flushed before it; since any read may fail,
    -- and no write follows one that did, so they are before each read
    pub prompt : e ≡ Read → (last ≡ []) × Gave given given' (λ bytes. Appends old new (s.rows bytes) × IsFlushedAfter bytes flushed)
    -- the rows of all reads, except at most the last, were written: whole rows, each once
    pub between : e ≢ Write → Appends old new (s.rows heard)
    -- these rows were written, and then a beginning of the rest of the listing of all that was read
    pub within : e ≡ Write → (written : List ℕ) × (rest : List ℕ)
        × (s.text (heard ++ last) ≡ s.rows heard ++ (written ++ rest))
        × Appends old new (s.rows heard ++ written)
    pub too_long : e ≡ TooLong → IsLong s.claim ⊎ (2 ^ 36 < s.size (heard ++ last))
    pub past : e ≡ BitsPastBytes → IsShort s.claim (s.size (heard ++ last)) × (ended ≡ true)
    pub bad_gaps : e ≡ BadGaps → (AreGaps (2 ^ 36) s.gaps → ⊥) ⊎ (AreGaps (claim_or s.claim (s.size (heard ++ last))) s.gaps → ⊥)

-- the promises of following a stream, if the reader was `reader` and is now `reader'`, and the writer likewise. A caller relies on its
-- fields as on clauses
pub record Follows {R W : Type 0} (source : Source R) (sink : Sink W) (s : Stream) (reader reader' : R) (writer writer' : W)
    (result : Result (Unit {0}) RdsError) : Type 0 where
  pub ok : OnOk result (IsFollowed s (source.given reader) (source.given reader') (source.has_ended reader')
      (sink.contents writer) (sink.contents writer') (sink.is_flushed writer'))
  -- what it gave was taken from what it held, if that is known; that is all of it where the end must be reached
  pub took : Gave (source.given reader) (source.given reader') (Consumes (source.remaining reader) (source.remaining reader'))
  pub end : OnOk result (s.claim ≡ None → IsAtEnd (source.remaining reader'))
  pub past : IsErrOf result BitsPastBytes → IsAtEnd (source.remaining reader')
  pub bad_gaps : IsErrOf result BadGaps → (AreGaps (2 ^ 36) s.gaps → ⊥) ⊎ (s.claim ≡ None → IsAtEnd (source.remaining reader'))
  -- a refusal for a device's sake comes exactly if it failed
  pub read : IsErrOf result Read ↔ (source.failed reader < source.failed reader')
  pub write : IsErrOf result Write ↔ (sink.failed writer < sink.failed writer')
  pub refused : IfErr result MayBreakOff
  -- when each other refusal comes, and the writer's contents after it
  pub broke_off : IfErr result (BreaksOff s (source.given reader) (source.given reader') (source.has_ended reader')
      (sink.contents writer) (sink.contents writer') (sink.is_flushed writer'))

-- ---- a stream of bits

-- the most bytes that one read gives, by this number of workers
abbrev pub most_read : ℕ → ℕ
most_read workers = max 65536 (32768 * min workers 4)

-- how many bits of a stream of these bytes count: the number that is claimed, if there are as many, or else
-- all
abbrev pub counted : Option ℕ → List ℕ → ℕ
counted None bytes = 8 * length bytes
counted (Some bits) bytes = min bits (8 * length bytes)

-- the rows of the items that are complete once these bytes were heard
abbrev pub rows_so_far : Terms → List ℕ → List ℕ
rows_so_far terms bytes = flat_map item_row (complete terms bytes)

-- the listing of the bits that count in a stream of these bytes
abbrev pub stream_text : Terms → Option ℕ → List ℕ → List ℕ
stream_text terms bits bytes = list_text terms.rules (signal_at terms.gaps bytes (counted bits bytes))

-- the outcome of a list of a recording of these bytes: its text, or the refusal of them
abbrev pub listed : Terms → Option ℕ → List ℕ → Result (List ℕ) RdsError
listed terms bits held = and_then (first_bits (claimed bits held) terms.gaps held) (λ recording. Ok (list_text terms.rules recording))

-- the reader gave all bits that count
abbrev pub IsHeardOut : Option ℕ → Bool → List ℕ → Type 0
IsHeardOut bits ended bytes = HasAll bits 8 (8 * length bytes) ended

-- the stream of these bits, followed by this number of workers
abbrev pub bit_stream : Terms → ℕ → Option ℕ → Stream
bit_stream terms workers bits = record {
  step = 8;
  size = λ bytes. 8 * length bytes;
  claim = bits;
  gaps = terms.gaps;
  most = most_read workers;
  rows = rows_so_far terms;
  text = stream_text terms bits;
  listed = listed terms bits;
}
