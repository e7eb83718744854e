-- A burst of up to five bits as it is kept, by its shape and its shift. `Burst` keeps it so, and no caller sees it.
use Rattle.std.specs.{Prelude.◌≡◌, Prelude.ℕ, Prelude.◌*◌, Prelude.◌/◌, Prelude.◌^◌, Int.Count.count_trailing_zeros}
use Rattle.rds_code.specs.Bursts.{IsBurst}

-- the place of its lowest one
abbrev pub shift_of : ℕ → ℕ
shift_of e = count_trailing_zeros 32 e

-- the burst, shifted down until its lowest bit is a one
abbrev pub shape_of : ℕ → ℕ
shape_of e = e / 2 ^ shift_of e

-- the shape, shifted up, is a burst, which has that shape and that shift
pub record IsShape (shape shift : ℕ) : Type 0 where
  pub burst : IsBurst 5 (shape * 2 ^ shift)
  pub shape_again : shape_of (shape * 2 ^ shift) ≡ shape
  pub shift_again : shift_of (shape * 2 ^ shift) ≡ shift
