-- How far a stream was followed: this project's rule. The steps of `follow` and `follow_soft` cite it, and no public call.
use Rattle.std.specs.Prelude.{◌≡◌, ◌≤◌, ◌<◌, ◌+◌, ◌^◌, ◌++◌, ◌-◌, ◌⊎◌, ◌↔◌, ⊤, ℕ, IfSome, List, None, Option, Some}
use Rattle.std.specs.Io.KnownBytes.{Appends, Consumes, IsAtEnd}
use Rattle.rds_rows.specs.declared.sink.Sink.{Ghosts as Sink}
use Rattle.rds_stream.specs.Recording.{AreGaps}
use Rattle.rds_tool.specs.{Following.BreaksOff, Following.IsFlushedAfter, Following.MayBreakOff, Following.Stream, History.Gave, declared.devices.Source.Ghosts as Source}
use Rattle.rds_code.specs.declared.error.RdsError.{RdsError, TheVariants.BadGaps, TheVariants.BitsPastBytes, TheVariants.Read, TheVariants.Write}

module _ {R W : Type 0} (source : Source R) (sink : Sink W) (s : Stream) (reader reader' : R) (writer writer' : W) where
  -- these symbols were heard, and the rows that they complete were written
  pub record IsHeard (heard : List ℕ) : Type 0 where
    pub gave : source.given reader' ≡ source.given reader ++ heard
    pub took : Consumes (source.remaining reader) (source.remaining reader') heard
    pub counts : IfSome s.claim (λ n. s.size heard ≤ n)
    pub written : Appends (sink.contents writer) (sink.contents writer') (s.rows heard)
    pub flush : IsFlushedAfter heard (sink.is_flushed writer')
    pub reads : source.failed reader' ≡ source.failed reader
    pub writes : sink.failed writer' ≡ sink.failed writer

  -- following broke off by this error
  pub record Breaks (e : RdsError) : Type 0 where
    pub broke_off : BreaksOff s (source.given reader) (source.given reader') (source.has_ended reader')
        (sink.contents writer) (sink.contents writer') (sink.is_flushed writer') e
    pub took : Gave (source.given reader) (source.given reader') (Consumes (source.remaining reader) (source.remaining reader'))
    pub past : e ≡ BitsPastBytes → IsAtEnd (source.remaining reader')
    pub bad_gaps : e ≡ BadGaps → (AreGaps (2 ^ 36) s.gaps → ⊥) ⊎ (s.claim ≡ None → IsAtEnd (source.remaining reader'))
    pub read : (e ≡ Read) ↔ (source.failed reader < source.failed reader')
    pub write : (e ≡ Write) ↔ (sink.failed writer < sink.failed writer')
    pub may : MayBreakOff e

-- how many of the claimed bits are left, 0 if none are claimed
abbrev pub bits_left : Option ℕ → ℕ → ℕ
bits_left None place = 0
bits_left (Some bits) place = bits - place

-- less than a symbol is left of the bits that count, or no more is to come
abbrev pub IsNear : Option ℕ → ℕ → ℕ → Type 0 → Type 0
IsNear None step size Ended = Ended
IsNear (Some bits) step size Ended = (bits < size + step) ⊎ Ended

-- no more bits are claimed than a recording may have
abbrev pub IsShortEnough : Option ℕ → Type 0
IsShortEnough None = ⊤
IsShortEnough (Some bits) = bits ≤ 2 ^ 36

-- the place is not past the bits that count
abbrev pub IsPlaceOf : Option ℕ → ℕ → Type 0
IsPlaceOf None place = ⊤
IsPlaceOf (Some bits) place = place ≤ bits
