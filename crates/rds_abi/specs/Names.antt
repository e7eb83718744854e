-- The name of an error in C: its letters, followed by a 0. `refusal_name` writes it. This project's rule.
use Rattle.std.specs.Prelude.{◌≡◌, ℕ, ◌+◌, ◌≤◌, ◌++◌, ◌∷◌, List, drop, length}
use Rattle.rds_abi.specs.{Refusals.name_of, Refusals.number_of, declared.refusal.Refusal.Refusal, declared.refusal.Refusal.TheVariants.NoRefusal, declared.refusal.Refusal.TheVariants.SmallRoom}

-- the room begins with the text and a 0
abbrev pub IsSpelled : List ℕ → List ℕ → List ℕ → Type 0
IsSpelled text old new = new ≡ text ++ 0 ∷ drop (length text + 1) old

-- the name of the refusal of this number does
abbrev pub IsNamed : ℕ → List ℕ → List ℕ → Type 0
IsNamed number old new = (refusal : Refusal) × (number_of refusal ≡ number) × IsSpelled (name_of refusal) old new

-- there is none of this number, or it is too long for the room
abbrev pub RefusesName : ℕ → List ℕ → Refusal → Type 0
RefusesName number room NoRefusal = (refusal : Refusal) → number_of refusal ≡ number → ⊥
RefusesName number room SmallRoom = (refusal : Refusal) × (number_of refusal ≡ number) × (length room ≤ length (name_of refusal))
RefusesName number room other = ⊥
