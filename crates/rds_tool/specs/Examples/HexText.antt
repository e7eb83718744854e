-- Hexadecimal input: digits of either case, two per byte, among which space, tab, carriage return and line
-- feed don't count.
use Rattle.std.specs.Prelude.{◌≡◌, ℕ, List, [], ◌∷◌, ◌++◌, Err, Ok, codes, map, refl}
use Rattle.hex.specs.Hex.{decode_pairs}
use Rattle.rds_tool.specs.Input.{decoded}
use Rattle.rds_code.specs.declared.error.RdsError.TheVariants.{HexText}

-- these texts spell these bytes
abbrev pub Spell : List (List ℕ × List ℕ) → Type 0
Spell rows = map (λ row. decoded row.0) rows ≡ map (λ row. Ok row.1) rows

-- either case; a space in a byte, a tab, a carriage return and line feeds; nothing, and only blanks
pub spelled : Spell (
    (codes "00aF9b", 0x00 ∷ 0xAF ∷ 0x9B ∷ [])
    ∷ (codes "0 1" ++ 9 ∷ codes "23" ++ 13 ∷ 10 ∷ 10 ∷ codes " 45 ", 0x01 ∷ 0x23 ∷ 0x45 ∷ [])
    ∷ ([], [])
    ∷ (32 ∷ 9 ∷ 13 ∷ 10 ∷ [], [])
    ∷ []
    )
unfolding decode_pairs
spelled = refl

-- these texts are none
abbrev pub AreNone : List (List ℕ) → Type 0
AreNone texts = map decoded texts ≡ map (λ text. Err HexText) texts

-- vertical tab, form feed, a byte of zero and a space that no line breaks at are no blanks; an odd number of digits, and letters that are
-- no digits
pub none : AreNone (
    (codes "00" ++ 11 ∷ codes "11") ∷ (codes "00" ++ 12 ∷ codes "11") ∷ (codes "00" ++ 0 ∷ []) ∷ (codes "00" ++ 0xC2 ∷ 0xA0 ∷ codes "11")
    ∷ codes "00 0" ∷ codes "0x" ∷ codes "0g" ∷ []
    )
unfolding decode_pairs
none = refl
