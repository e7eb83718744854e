-- The windows heard of consecutive blocks. `Reader::four_windows` answers them for four.
use Rattle.std.specs.Prelude.{ℕ, ◌+◌, List, [], ◌∷◌, Option}
use Rattle.rds_stream.specs.Recording.{Signal, heard}

-- the windows heard of four consecutive blocks, the first of which ends at place i
abbrev pub four_heard : Signal → ℕ → List (Option ℕ)
four_heard b i = heard b i ∷ heard b (i + 26) ∷ heard b (i + 52) ∷ heard b (i + 78) ∷ []
