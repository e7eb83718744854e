-- Stretches of a run; lawful states at the limits, and states just past them.
use Rattle.std.{specs.Prelude.Option, specs.Prelude.◌≡◌, specs.Prelude.ℕ, specs.Prelude.List, specs.Prelude.[], specs.Prelude.◌∷◌, specs.Prelude.Some, specs.Prelude.None, specs.Prelude.refl, proofs.Common.inl, proofs.Common.inr, proofs.Common.arith, proofs.Common.rules}
use Rattle.rds_sync.specs.Examples.Words.{Signal, State, Searching, Locked, lock_of, Item, Acquired, Group, computed, first, zero_group, rules_of, rules_with_share, default_rules, due_1}
use Rattle.rds_sync.specs.{declared.step.Step.Step, Groups.group, Lawful.IsBetweenGroups, Lawful.IsLawful, Rules.RuleNumbers, Stretch.IsStretch}

-- ---- how far a stretch of a run goes: the zero group is searched up to the place that acquires, and then read up to its end

abbrev pub b : Signal
b = first 104 zero_group

abbrev pub reached : ℕ → State → List (Option Item) → Step
reached place state items = record { place = place; state = state; items = items }

-- the bit that acquires, and the one that closes the group
abbrev pub acquires : List (Option Item)
acquires = Some (Acquired 51 2) ∷ None ∷ []

abbrev pub closes : List (Option Item)
closes = Some (Group (group b default_rules 2 4 103)) ∷ None ∷ []

abbrev pub nothing : List (Option Item)
nothing = None ∷ None ∷ []

-- the search ends after the bit that acquires
pub to_the_acquisition : IsStretch b default_rules Searching 0 104 (reached 52 (Locked (lock_of 77 3 0 2)) acquires)
unfolding computed
to_the_acquisition = record {
  forward = omega arith;
  limit = omega arith;
  state = refl;
  items = refl;
  quiet = refl;
  ended = inr (λ none. cc);
  lawful = search (rules, arith);
}

-- not one bit before, as nothing was given yet and the range continues
pub not_before : IsStretch b default_rules Searching 0 104 (reached 51 Searching nothing) → ⊥
unfolding computed
not_before stretch = elim stretch.ended [ inl end ↦ omega (arith, end) | inr some ↦ some refl ]

-- and not one bit after it, though the state is that of the run
pub not_behind : IsStretch b default_rules Searching 0 104 (reached 53 (Locked (lock_of 77 3 0 2)) acquires) → ⊥
unfolding computed
not_behind stretch = let quiet : Acquired 51 2 ∷ [] ≡ [] = stretch.quiet in cc

-- if nothing is given it extends to the end of its range
pub to_the_end : IsStretch b default_rules Searching 0 51 (reached 51 Searching nothing)
unfolding computed
to_the_end = record {
  forward = omega arith;
  limit = omega arith;
  state = refl;
  items = refl;
  quiet = refl;
  ended = inl refl;
  lawful = tt;
}

-- a lock is read up to and including the block that closes its group
pub to_the_group : IsStretch b default_rules (Locked (lock_of 77 3 0 2)) 52 104 (reached 104 (due_1 129) closes)
unfolding computed
to_the_group = record {
  forward = omega arith;
  limit = omega arith;
  state = refl;
  items = refl;
  quiet = refl;
  ended = inl refl;
  lawful = search (rules, arith);
}

-- ---- lawful states

-- before the bit at the place, a lock with the block that is due, its number, the bad blocks and the first block
abbrev pub IsLawfulAt : RuleNumbers → ℕ → ℕ → ℕ → ℕ → ℕ → Type 0
IsLawfulAt numbers place due number bad first = IsLawful numbers place (Locked (lock_of due number bad first))

pub are_lawful : IsLawful default_rules 0 Searching
    -- a block may be due at this place, and at the last of the next 26
    × IsLawfulAt default_rules 129 129 1 9 1
    × IsLawfulAt default_rules 104 129 1 0 1
    -- all but one of 64 blocks may be bad, and by a share of two of four the oldest
    × IsLawfulAt (rules_of 2 3 64) 129 129 1 63 1
    × IsLawfulAt (rules_with_share 2 4) 129 129 1 8 1
    -- the first block of the group ends at place 25, the least
    × IsLawfulAt default_rules 78 103 4 0 1
    -- the block after one that acquires at place 51, the least
    × IsLawfulAt default_rules 52 77 2 0 1
    -- the last of a group
    × IsLawfulAt default_rules 129 129 4 0 3
unfolding computed
are_lawful = search (rules, arith)

-- not after the block that is due, nor more than 26 places before it
pub not_at_another_place : (IsLawfulAt default_rules 130 129 1 0 1 → ⊥) × (IsLawfulAt default_rules 103 129 1 0 1 → ⊥)
not_at_another_place = (λ lawful. omega arith, λ lawful. omega arith)

-- not with as many bad blocks as lose the lock, nor with one before the last four
pub not_lost : (IsLawfulAt default_rules 129 129 1 10 1 → ⊥) × (IsLawfulAt (rules_with_share 2 4) 129 129 1 16 1 → ⊥)
    × (IsLawfulAt (rules_with_share 2 4) 129 129 1 3 1 → ⊥)
unfolding computed
not_lost = (λ lawful. omega arith, λ lawful. omega arith, λ lawful. omega arith)

-- not with a first block before the recording, nor before any acquires, nor with the recording's first block due
pub not_before_the_start : (IsLawfulAt default_rules 77 102 4 0 1 → ⊥) × (IsLawfulAt default_rules 51 76 2 0 1 → ⊥)
    × (IsLawfulAt default_rules 0 25 1 0 1 → ⊥)
not_before_the_start = (λ lawful. omega arith, λ lawful. omega arith, λ lawful. omega arith)

-- no block 5; no first block that is due itself, except block 1, which begins a group
pub not_of_another_number : (IsLawfulAt default_rules 129 129 5 0 1 → ⊥) × (IsLawfulAt default_rules 129 129 2 0 2 → ⊥)
    × (IsLawfulAt default_rules 129 129 1 0 2 → ⊥)
not_of_another_number = (λ lawful. omega arith, λ lawful. omega arith, λ lawful. omega arith)

-- ---- groups in progress

pub between_at_1 : IsBetweenGroups (Locked (lock_of 129 1 3 1)) × IsBetweenGroups Searching
between_at_1 = (refl, tt)

pub in_progress_at_2 : IsBetweenGroups (Locked (lock_of 155 2 0 1)) → ⊥
in_progress_at_2 between = omega arith
