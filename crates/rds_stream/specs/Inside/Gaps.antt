-- The first gap that ends after a place. A recording looks for it, and no caller sees it.
use Rattle.std.specs.{Prelude.◌≡◌, Prelude.ℕ, Prelude.◌<◌, Prelude.◌≤◌, Prelude.List, Prelude.length, List.AllWithin, List.HoldsAt}

-- the first n gaps end at or before the place
abbrev pub AllEndBy : List (ℕ × ℕ) → ℕ → ℕ → Type 0
AllEndBy gaps n place = AllWithin (λ gap. gap.1 ≤ place) gaps 0 n

-- this gap is the first that does not
pub record IsFirstAfter (gaps : List (ℕ × ℕ)) (place : ℕ) (gap : ℕ × ℕ) : Type 0 where
  pub index : ℕ
  pub within : index < length gaps
  pub is : HoldsAt (λ g. g ≡ gap) gaps index
  pub past : place < gap.1
  pub before : AllEndBy gaps index place
