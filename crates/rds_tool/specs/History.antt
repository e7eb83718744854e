-- The bytes that a reader gave from one moment to another: this project's rule. `transcribe` and `follow`
-- state by it the promises that hold at every reader, standard input too.
use Rattle.std.specs.Prelude.{◌++◌, ◌≡◌, List, ℕ}

-- bytes were given since then, of which this holds
abbrev pub Gave : List ℕ → List ℕ → (List ℕ → Type 0) → Type 0
Gave before after P = (bytes : List ℕ) × (after ≡ before ++ bytes) × P bytes
