-- Groups to be encoded, lines of digits in, packed blocks out: this project's rule. It is the text that `transcribe` writes
-- for an `Encode` job, by way of `Outcome`.
use Rattle.std.specs.Prelude.{◌*◌, ◌+◌, ◌++◌, ◌==◌, ◌^◌, ◌||◌, ◌∷◌, Bool, Err, List, Ok, Result, [], drop, if◌then◌else◌, not, slice_index, ℕ}
use Rattle.std.specs.{Int.to_be_bytes, Int.w128, List.filter, List.slice_split}
use Rattle.hex.specs.{Hex.decode_sized, Hex.encode_lower, declared.error.FromHexError.FromHexError}
use Rattle.rds_code.specs.{Encoding.encoded_group, declared.error.RdsError.RdsError, declared.error.RdsError.TheVariants.GroupText}
use Rattle.rds_tool.specs.Input.{and_then}

-- ---- from digits to words

-- space, tab and carriage return
abbrev pub is_space : ℕ → Bool
is_space b = (b == 32) || (b == 9) || (b == 13)

-- the digits of each line; lines are parted by line feeds, and spaces don't count
abbrev pub lines_of : List ℕ → List (List ℕ)
lines_of text = slice_split (λ b. b == 10) (filter (λ b. not (is_space b)) text)

-- the word of two bytes, the higher one first
abbrev pub word_at : List ℕ → ℕ → ℕ
word_at bytes i = 256 * slice_index bytes i + slice_index bytes (i + 1)

-- the four words of eight bytes, or the refusal of text that is not sixteen digits
abbrev pub words_or_refusal : Result (List ℕ) FromHexError → Result (List ℕ) RdsError
words_or_refusal (Ok bytes) = Ok (word_at bytes 0 ∷ word_at bytes 2 ∷ word_at bytes 4 ∷ word_at bytes 6 ∷ [])
words_or_refusal (Err e) = Err GroupText

-- the four words of sixteen hexadecimal digits of either case
abbrev pub words_of : List ℕ → Result (List ℕ) RdsError
words_of digits = words_or_refusal (decode_sized digits 8)

-- ---- from words to bytes

-- the bits of four blocks, one block after the other, as a number of 104 bits
abbrev pub joined : List ℕ → ℕ
joined blocks = ((slice_index blocks 0 * 2 ^ 26 + slice_index blocks 1) * 2 ^ 26 + slice_index blocks 2) * 2 ^ 26 + slice_index blocks 3

-- the 13 bytes of a group, the first bit highest
abbrev pub group_bytes : List ℕ → List ℕ
group_bytes words = drop 3 (to_be_bytes w128 (joined (encoded_group words)))

-- a group as it is written: its bytes, or their digits in lower case on a line of their own
abbrev pub group_text : Bool → List ℕ → List ℕ
group_text hex words = if hex then encode_lower (group_bytes words) ++ 10 ∷ [] else group_bytes words

-- ---- from lines to text

-- the text that is written for a line: nothing if it is empty
abbrev pub line_text : Bool → List ℕ → Result (List ℕ) RdsError
line_text hex [] = Ok []
line_text hex (digit ∷ digits) = and_then (words_of (digit ∷ digits)) (λ words. Ok (group_text hex words))

-- the text that is written for lines, or the refusal of the first that is faulty
abbrev pub lines_text : Bool → List (List ℕ) → Result (List ℕ) RdsError
lines_text hex [] = Ok []
lines_text hex (line ∷ lines) = and_then (line_text hex line) (λ first. and_then (lines_text hex lines) (λ others. Ok (first ++ others)))

-- the text that is written for a text of lines, or the refusal of its first faulty line
abbrev pub encoded_text : Bool → List ℕ → Result (List ℕ) RdsError
encoded_text hex text = lines_text hex (lines_of text)
