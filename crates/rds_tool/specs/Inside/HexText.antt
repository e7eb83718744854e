-- The bytes of hexadecimal text that comes in parts. Cited by `hex_bytes` and `InputCounter`, and by no public call.
use Rattle.std.specs.Prelude.{◌*◌, ◌+◌, ◌++◌, ◌∷◌, ◌≡◌, ℕ, Err, List, [], None, Ok, Option, Result, Some, not}
use Rattle.std.specs.List.{filter}
use Rattle.hex.specs.Hex.{hex_digit_value}
use Rattle.rds_tool.specs.Input.{and_then, is_blank}
use Rattle.rds_code.specs.declared.error.RdsError.{RdsError, TheVariants.HexText}

-- the byte of two digits and the bytes after it
abbrev pub with_byte : Option ℕ → Option ℕ → Result (List ℕ) RdsError → Result (List ℕ) RdsError
with_byte None low more = Err HexText
with_byte (Some high) None more = Err HexText
with_byte (Some high) (Some low) more = and_then more (λ bytes. Ok ((high * 16 + low) ∷ bytes))

-- the bytes of these digits
abbrev pub bytes_of : List ℕ → Result (List ℕ) RdsError
bytes_of [] = Ok []
bytes_of (high ∷ []) = Err HexText
bytes_of (high ∷ low ∷ digits) = with_byte (hex_digit_value high) (hex_digit_value low) (bytes_of digits)

-- the bytes of digits after a first one, if there is one
abbrev pub bytes_after : Option ℕ → List ℕ → Result (List ℕ) RdsError
bytes_after None digits = bytes_of digits
bytes_after (Some high) [] = Err HexText
bytes_after (Some high) (low ∷ digits) = with_byte (Some high) (hex_digit_value low) (bytes_of digits)

-- the bytes of text after such a digit
abbrev pub bytes_after_of : Option ℕ → List ℕ → Result (List ℕ) RdsError
bytes_after_of half text = bytes_after half (filter (λ b. not (is_blank b)) text)

-- whatever text comes after this, these are its first bytes, and this is the digit that is left over
abbrev pub IsDecodedBy : Option ℕ → List ℕ → List ℕ → Option ℕ → Type 0
IsDecodedBy half text bytes left = (more : List ℕ) → bytes_after_of half (text ++ more) ≡ and_then (bytes_after_of left more) (λ rest. Ok (bytes ++ rest))

-- whatever comes after this, it is no hexadecimal text
abbrev pub IsStrangeAfter : Option ℕ → List ℕ → Type 0
IsStrangeAfter half text = (more : List ℕ) → bytes_after_of half (text ++ more) ≡ Err HexText
