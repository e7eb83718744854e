-- How a recording is cut into pieces: this project's rule. `Cutting` is one, by `new` and `even`, and `speculate`, `Work` and
-- `decode_crew` ask for one of their recording.
use Rattle.std.specs.{Prelude.◌≡◌, Prelude.ℕ, Prelude.◌-◌, Prelude.◌*◌, Prelude.◌<◌, Prelude.List, Prelude.[], Prelude.◌∷◌, Prelude.◌++◌, Prelude.length, Prelude.map, Prelude.slice_index, Int.div_ceil, List.range_with_len, List.Sorted.IsStrictlyIncreasing}

-- a strictly rising list of places that begins with 0 and ends with n; for n = 0 it is the list of only 0
pub record IsCutting (n : ℕ) (places : List ℕ) : Type 0 where
  pub some : 0 < length places
  pub begins : slice_index places 0 ≡ 0
  pub ends : slice_index places (length places - 1) ≡ n
  pub rising : IsStrictlyIncreasing places

-- how many pieces a cutting has: piece j is that of the places from its place j up to its place j + 1
abbrev pub pieces_of : List ℕ → ℕ
pieces_of places = length places - 1

-- the multiples of s below n, then n
abbrev pub every : ℕ → ℕ → List ℕ
every s n = map (λ k. k * s) (range_with_len 0 (div_ceil n s)) ++ n ∷ []

-- the even cutting of n places into that many pieces or fewer, each but the last of n / pieces places, rounded up
abbrev pub even_places : ℕ → ℕ → List ℕ
even_places n pieces = every (div_ceil n pieces) n
