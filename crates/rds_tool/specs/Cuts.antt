-- Cuttings of a recording, as settings name them: this project's rule. `Plans` and `Outcome` refuse by it any
-- other places, and so does `transcribe`.
use Rattle.std.specs.Prelude.{◌&&◌, ◌++◌, ◌∷◌, ℕ, Bool, List, [], false, nat_le, nat_lt, suc, true, zero}
use Rattle.rds_pieces.specs.Cutting.{even_places}
use Rattle.rds_tool.specs.declared.job.Cuts.{Cuts, TheVariants.At, TheVariants.Even}

-- they rise strictly, from above `low` to below `high`
abbrev pub rise_between : ℕ → List ℕ → ℕ → Bool
rise_between low [] high = nat_lt low high
rise_between low (cut ∷ cuts) high = nat_lt low cut && rise_between cut cuts high

-- they cut this number of bits: they rise strictly, above 0 and below that number; no bits have no cuts
abbrev pub are_inner : ℕ → List ℕ → Bool
are_inner zero [] = true
are_inner zero (cut ∷ cuts) = false
are_inner (suc n) cuts = rise_between 0 cuts (suc n)

-- the places of the cutting at such cuts: 0, the cuts and, if there are bits, their number
abbrev pub places_at : ℕ → List ℕ → List ℕ
places_at zero cuts = 0 ∷ cuts
places_at (suc n) cuts = 0 ∷ cuts ++ suc n ∷ []

-- the places of the cutting of n bits: equal pieces, except the last, or those between the given cuts
abbrev pub places_by : Cuts → ℕ → List ℕ
places_by (Even pieces) n = even_places n pieces
places_by (At cuts) n = places_at n cuts.items

-- it asks for one piece or more, if it says how many
abbrev pub has_pieces : Cuts → Bool
has_pieces (Even pieces) = nat_le 1 pieces
has_pieces (At cuts) = true

-- it can cut n bits
abbrev pub cuts_bits : Cuts → ℕ → Bool
cuts_bits (Even pieces) n = true
cuts_bits (At cuts) n = are_inner n cuts.items

-- it can cut any number of bits
abbrev pub cuts_any : Cuts → Bool
cuts_any (Even pieces) = true
cuts_any (At cuts) = false
