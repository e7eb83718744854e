-- Two zero groups, and their first 182 bits, where the second group is in progress: its block 3 ends at bit 181.
use Rattle.std.{specs.Prelude.zero, specs.Prelude.suc, specs.Prelude.◌⊎◌, specs.Prelude.slice_get, specs.Prelude.◌≡◌, specs.Prelude.ℕ, specs.Prelude.[], specs.Prelude.◌∷◌, specs.Prelude.Some, specs.Prelude.refl, proofs.Common.inl, proofs.Common.inr}
use Rattle.rds_sync.specs.Examples.Words.{bits_of, A, first, zero_groups, missing, a0, b0, c0, d0, group_at, whole_at, items_of_whole, and_then}
use Rattle.rds_sync.specs.Longer.{beginning, OnlyAddsItems}

-- the whole recording has the group with its block 4, at the same place, after the same items
pub only_adds : OnlyAddsItems (and_then A a0 b0 c0 missing) (and_then A a0 b0 c0 d0)
only_adds = record {
  common = items_of_whole;
  end = group_at 104 (Some 0) A a0 b0 c0 missing ∷ [];
  later = whole_at 104 ∷ [];
  shorter_is = refl;
  longer_is = refl;
  goes_on = record {
    unfinished = refl;
    place = refl;
    blocks = blocks;
  };
}
  where
    blocks : (y : ℕ) → (slice_get (a0 ∷ b0 ∷ c0 ∷ missing ∷ []) y ≡ Some missing)
        ⊎ (slice_get (a0 ∷ b0 ∷ c0 ∷ d0 ∷ []) y ≡ slice_get (a0 ∷ b0 ∷ c0 ∷ missing ∷ []) y)
    blocks (suc (suc (suc zero))) = inl refl
    blocks zero = inr refl
    blocks (suc zero) = inr refl
    blocks (suc (suc zero)) = inr refl
    blocks (suc (suc (suc (suc y)))) = inr refl

-- the first bits of a recording, and its gaps as far as they are in them
pub first_bits : beginning 182 (first 208 (zero_groups 2)) ≡ first 182 (zero_groups 2)
first_bits = refl

pub first_gaps : (beginning 182 (record {
  bits = bits_of (zero_groups 2) 208;
  gaps = (100, 120) ∷ (170, 190) ∷ (195, 200) ∷ [];
})).gaps ≡ (100, 120) ∷ (170, 182) ∷ []
first_gaps = refl
