-- What a counter of a recording knows while its bytes come. Cited by `Counter` and `InputCounter`, and by no public call.
use Rattle.std.specs.Prelude.{◌*◌, ◌-◌, ◌/◌, ◌<◌, ◌^◌, ◌≡◌, ℕ, Bool, List, None, IfSome, Ok, Option, Result, Some, false, length, min, slice_index, take, true}
use Rattle.rds_live.specs.StreamDecoder.{HasHeard, LiveOf, Terms}
use Rattle.rds_sync.specs.Rules.{RuleNumbers}
use Rattle.rds_code.specs.declared.error.RdsError.{RdsError}
use Rattle.rds_tool.specs.{Input.and_then, Input.recording_of, Inside.HexText.IsDecodedBy, Inside.HexText.IsStrangeAfter, InputOf.InputOf, Outcome.totals_list}

-- how many whole bytes the bits have that are counted: those that are claimed, and no more than a recording may have
abbrev pub whole : Option ℕ → ℕ
whole None = 2 ^ 33
whole (Some bits) = min bits (2 ^ 36) / 8

-- how many bits are claimed of this number of bytes, which stops at the greatest word
abbrev pub claimed_by : Option ℕ → ℕ → ℕ
claimed_by None count = min (8 * count) (2 ^ 64 - 1)
claimed_by (Some bits) count = bits

-- the terms, how many bits are claimed, and the bytes that came
pub record CounterOf : Type 0 where
  pub terms : Terms
  pub bits : Option ℕ
  pub bytes : List ℕ

-- the decoder has heard the whole bytes that count, and the byte after them is kept
pub record IsCounter (live : LiveOf) (bits : Option ℕ) (count last : ℕ) (bytes : List ℕ) : Type 0 where
  pub heard : HasHeard live (take (whole bits) bytes)
  pub counts : count ≡ min (length bytes) (2 ^ 64 - 1)
  pub ends : whole bits < length bytes → last ≡ slice_index bytes (whole bits)

-- the input, the rules, and the text or the bytes that came
pub record InputCounterOf : Type 0 where
  pub input : InputOf
  pub rules : RuleNumbers
  pub text : List ℕ

-- the text was decoded to these bytes and maybe a digit, or is no hexadecimal text
abbrev pub IsTextOf : Bool → Option ℕ → Bool → List ℕ → List ℕ → Type 0
IsTextOf false half strange text bytes = (bytes ≡ text) × (half ≡ None) × (strange ≡ false)
IsTextOf true half true text bytes = IsStrangeAfter None text
IsTextOf true half false text bytes = IfSome half (λ digit. digit < 16) × IsDecodedBy None text bytes half

-- the rows of the totals of the recording of this text, or the refusal
abbrev pub text_of_counted : InputOf → RuleNumbers → List ℕ → Result (List ℕ) RdsError
text_of_counted input rules text = and_then (recording_of input text) (λ recording. Ok (totals_list rules recording))
