-- Texts of `--gaps` and the gaps that they spell: pairs of 1 to 12 digits each, with a comma between each two.
use Rattle.std.specs.Prelude.{◌≡◌, ℕ, List, [], ◌∷◌, None, Some, codes, map, refl}
use Rattle.rds_tool.specs.GapText.{gaps_of}

-- these texts spell these gaps
abbrev pub Spell : List (List ℕ × List (ℕ × ℕ)) → Type 0
Spell rows = map (λ row. gaps_of row.0) rows ≡ map (λ row. Some row.1) rows

-- whether a recording may have them is not asked here: a gap may have no place, and gaps be out of order
pub spelled : Spell (
    (codes "104-105", (104, 105) ∷ [])
    ∷ (codes "10-20,20-30", (10, 20) ∷ (20, 30) ∷ [])
    ∷ (codes "007-0010", (7, 10) ∷ [])
    ∷ (codes "5-5", (5, 5) ∷ [])
    ∷ (codes "10-20,15-30,3-1", (10, 20) ∷ (15, 30) ∷ (3, 1) ∷ [])
    ∷ (codes "000000000001-999999999999", (1, 999999999999) ∷ [])
    ∷ []
    )
spelled = refl

-- these texts spell none
abbrev pub SpellNone : List (List ℕ) → Type 0
SpellNone texts = map gaps_of texts ≡ map (λ text. None) texts

-- thirteen digits, zeros too; no text, one place, letters, no end, no begin, three places; a sign, a blank; a comma at the end, at the
-- begin, and two commas; another mark
pub none : SpellNone (
    codes "0-1000000000000" ∷ codes "0000000000000-1"
    ∷ [] ∷ codes "5" ∷ codes "a-b" ∷ codes "5-" ∷ codes "-5" ∷ codes "1-2-3"
    ∷ codes "+1-2" ∷ codes "1-2, 3-4"
    ∷ codes "1-2," ∷ codes ",1-2" ∷ codes "1-2,,3-4"
    ∷ codes "1-2;3-4" ∷ []
    )
none = refl
