-- The groups of lines of digits whose text has come in part. Cited by `GroupLines` and by `Texts`, and by no public call.
use Rattle.std.specs.Prelude.{◌++◌, ◌≡◌, ◌≤◌, ◌∷◌, Bool, Err, List, Ok, Result, [], false, length, take, true, ℕ}
use Rattle.std.specs.List.{flat_map}
use Rattle.rds_tool.specs.{GroupText.encoded_text, GroupText.group_text, GroupText.line_text, GroupText.lines_of, GroupText.lines_text, Input.and_then}
use Rattle.rds_code.specs.declared.error.RdsError.{RdsError, TheVariants.GroupText}

-- the text of groups, one after the other
abbrev pub text_of_groups : Bool → List (List ℕ) → List ℕ
text_of_groups hex groups = flat_map (group_text hex) groups

-- a line adds its group, if it has digits
abbrev pub AddsLine : List ℕ → List (List ℕ) → List (List ℕ) → Type 0
AddsLine line old new = (more : List (List ℕ)) × (new ≡ old ++ more) × ((hex : Bool) → line_text hex line ≡ Ok (text_of_groups hex more))

-- the lines that are left, of which the first has begun
abbrev pub begun : List ℕ → List (List ℕ) → List (List ℕ)
begun line [] = []
begun line (rest ∷ lines) = (line ++ rest) ∷ lines

-- a text, and then that of lines
abbrev pub with_lines : Bool → List ℕ → List (List ℕ) → Result (List ℕ) RdsError
with_lines hex text lines = and_then (lines_text hex lines) (λ more. Ok (text ++ more))

-- however the text goes on, it gives the groups, and then those of the line that has begun and of the lines after it; or it
-- is refused
abbrev pub HasGroups : List (List ℕ) → List ℕ → Bool → List ℕ → Type 0
HasGroups groups line false text = (hex : Bool) (rest : List ℕ)
    → encoded_text hex (text ++ rest) ≡ with_lines hex (text_of_groups hex groups) (begun line (lines_of rest))
HasGroups groups line true text = (hex : Bool) (rest : List ℕ) → encoded_text hex (text ++ rest) ≡ Err GroupText

-- the same of a line that is kept in sixteen bytes
pub record IsGroupLines (groups : List (List ℕ)) (line : List ℕ) (len : ℕ) (is_faulty : Bool) (text : List ℕ) : Type 0 where
  pub room : length line ≡ 16
  pub fits : len ≤ 16
  pub has : HasGroups groups (take len line) is_faulty text
