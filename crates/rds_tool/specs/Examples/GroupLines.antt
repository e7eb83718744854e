-- Lines to be encoded: sixteen digits of either case, among which space, tab and carriage return don't count; empty
-- lines are skipped.
use Rattle.std.specs.Prelude.{◌≡◌, ℕ, Bool, List, [], ◌∷◌, ◌++◌, Err, Ok, codes, false, map, refl, true}
use Rattle.hex.specs.Hex.{decode_pairs, encode_with}
use Rattle.rds_code.specs.{Remainder.rem, declared.error.RdsError.TheVariants.GroupText}
use Rattle.rds_tool.specs.{GroupText.encoded_text, GroupText.lines_of, Examples.Words.line}

pub lines : lines_of (codes "1 2" ++ 9 ∷ codes "3" ++ 13 ∷ 10 ∷ 10 ∷ codes "45")
    ≡ codes "123" ∷ [] ∷ codes "45" ∷ []
lines = refl

-- these lines are encoded so, as digits if that is asked for
abbrev pub AreEncoded : List (Bool × List ℕ × List ℕ) → Type 0
AreEncoded rows = map (λ row. encoded_text row.0 row.1) rows ≡ map (λ row. Ok row.2) rows

-- programme 0x1234, a group of type 2 and version A, as digits and as bytes; the last line may lack its line feed. Then a group of
-- version B, whose block 3 has the offset C', among empty lines and blanks of each kind; two groups; nothing
pub encoded : AreEncoded (
    (true, codes "1234 2540 5244 5320", line (codes "12341a89501ac52449594c83fb"))
    ∷ (
      false,
      line (codes "1234254052445320"),
      0x12 ∷ 0x34 ∷ 0x1a ∷ 0x89 ∷ 0x50 ∷ 0x1a ∷ 0xc5 ∷ 0x24 ∷ 0x49 ∷ 0x59 ∷ 0x4c ∷ 0x83 ∷ 0xfb ∷ [],
    )
    ∷ (
      true,
      13 ∷ 10 ∷ 9 ∷ codes "0000" ++ 9 ∷ codes "08 00" ++ codes "00000000 " ++ 13 ∷ 10 ∷ codes "  " ++ 10 ∷ 10 ∷ [],
      line (codes "00003f02002c10000d400001b4"),
    )
    ∷ (
      true,
      line (codes "0000000000000000") ++ line (codes "0000080000000000"),
      line (codes "00003f000019800005a00001b4") ++ line (codes "00003f02002c10000d400001b4"),
    )
    ∷ (true, [], [])
    ∷ []
    )
unfolding rem decode_pairs encode_with
encoded = refl

pub either_case : encoded_text true (codes "AbCd000000000000") ≡ encoded_text true (codes "aBcD000000000000")
unfolding rem decode_pairs encode_with
either_case = refl

-- these texts are no lines
abbrev pub AreNone : List (List ℕ) → Type 0
AreNone texts = map (encoded_text true) texts ≡ map (λ text. Err GroupText) texts

-- fifteen digits, seventeen digits, a fault in the second line; a vertical tab, a form feed, no digit
pub none : AreNone (
    codes "123425405244532" ∷ codes "12342540524453200" ∷ (line (codes "0000000000000000") ++ line (codes "0"))
    ∷ (codes "1234 2540" ++ 11 ∷ codes "5244 5320") ∷ (codes "1234 2540 5244 5320" ++ 12 ∷ 10 ∷ []) ∷ codes "g234254052445320" ∷ []
    )
unfolding rem decode_pairs encode_with
none = refl
