-- What is known of symbols that are decoded as they come. `HeldSymbols` cites it, and no public call.
use Rattle.std.specs.Prelude.{◌+◌, ◌-◌, ◌^◌, ◌≡◌, Bool, List, None, Ok, Option, Result, Some, length, min, take, true, ℕ}
use Rattle.rds_code.specs.declared.error.RdsError.{RdsError}
use Rattle.rds_soft.specs.SoftStream.{SoftHeard, complete}
use Rattle.rds_soft.specs.declared.soft_item.SoftItem.{SoftItem}
use Rattle.rds_sync.specs.Rules.{RuleNumbers}
use Rattle.rds_tool.specs.{Input.and_then, InputOf.InputOf, Soft.recording_of_symbols, Soft.soft_text}

-- how many symbols count: one more than the bits that are claimed, and no more than a recording may have
abbrev pub most_heard : Option ℕ → ℕ
most_heard None = 2 ^ 36 + 1
most_heard (Some bits) = min bits (2 ^ 36) + 1

-- the input that the symbols are, the rules, the margin, and whether rows are listed
pub record HeldTerms : Type 0 where
  pub input : InputOf
  pub rules : RuleNumbers
  pub margin : ℕ
  pub has_rows : Bool

-- the terms, and the symbols that came
pub record HeldOf : Type 0 where
  pub terms : HeldTerms
  pub symbols : List ℕ

-- the stream has heard the symbols that count, and the items that these complete are listed, if rows are
pub record IsHeld (stream : SoftHeard) (bits : Option ℕ) (has_rows : Bool) (items : List SoftItem) (count : ℕ) (symbols : List ℕ) : Type 0 where
  pub heard : stream.symbols ≡ take (most_heard bits) symbols
  pub counts : count ≡ min (length symbols) (2 ^ 64 - 1)
  pub listed : has_rows ≡ true → items ≡ complete stream.terms stream.symbols

-- the text of these symbols, or their refusal
abbrev pub text_of_held : HeldTerms → List ℕ → Result (List ℕ) RdsError
text_of_held terms symbols =
    and_then (recording_of_symbols terms.input symbols)
    (λ recording. Ok (soft_text terms.has_rows terms.rules terms.margin symbols recording))
