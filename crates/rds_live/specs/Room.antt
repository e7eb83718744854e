-- The recording in which the last bytes of a stream are decoded, whose length never changes. `StreamDecoder` keeps it
-- so, and no caller sees it. This project's rule.
use Rattle.std.specs.{Prelude.◌≡◌, Prelude.ℕ, Prelude.◌+◌, Prelude.◌-◌, Prelude.◌*◌, Prelude.List, Prelude.◌++◌, Prelude.drop, Prelude.length, Prelude.map, List.range_with_len}
use Rattle.rds_stream.specs.Recording.{Signal}
use Rattle.rds_live.specs.{Gaps.gaps_within, StreamDecoder.signal_of, Moving.IsPartHeard}

-- for how many bytes of a stream there is room, with those that are kept
abbrev pub most_held : ℕ
most_held = 990

-- the bytes, and the recording that they are heard in
pub record RoomOf : Type 0 where
  pub bytes : List ℕ
  pub recording : Signal

-- how many gaps the recording has, whether or not the bytes have as many
abbrev pub slots_of : RoomOf → ℕ
slots_of room = length room.recording.gaps

-- the gap at number k if it is none of the stream's: it is after the bytes
abbrev pub spare : ℕ → ℕ × ℕ
spare k = (8 * most_held + k, 8 * most_held + k + 1)

-- from number k on all gaps are such
abbrev pub AreSpareFrom : ℕ → List (ℕ × ℕ) → Type 0
AreSpareFrom k gaps = drop k gaps ≡ map spare (range_with_len k (length gaps - k))

-- these gaps and as many of those as make up the number
abbrev pub filled_up : List (ℕ × ℕ) → ℕ → List (ℕ × ℕ)
filled_up gaps slots = gaps ++ map spare (range_with_len (length gaps) (slots - length gaps))

-- the bytes are heard in the recording, with the gaps that are in them, if `before` bits of the stream come
-- before them
abbrev pub IsHeardIn : RoomOf → List (ℕ × ℕ) → ℕ → Type 0
IsHeardIn room gaps before =
    IsPartHeard room.recording (signal_of (gaps_within gaps before (8 * length room.bytes)) room.bytes) 0 0
