-- Even cuttings of a few bits.
use Rattle.std.specs.Prelude.{◌≡◌, [], ◌∷◌, refl}
use Rattle.rds_pieces.specs.Cutting.{even_places}

pub ten_bits_in_four : even_places 10 4 ≡ 0 ∷ 3 ∷ 6 ∷ 9 ∷ 10 ∷ []
ten_bits_in_four = refl

-- the bits give five pieces of two
pub ten_bits_in_six : even_places 10 6 ≡ 0 ∷ 2 ∷ 4 ∷ 6 ∷ 8 ∷ 10 ∷ []
ten_bits_in_six = refl

-- no bit, no piece
pub no_bits : even_places 0 16 ≡ 0 ∷ []
no_bits = refl
