-- Gaps as a command line names them, pairs `from-to`, joined by commas: this project's rule. `asked_of` reads `--gaps` by it.
use Rattle.std.specs.Prelude.{◌&&◌, ◌==◌, ◌∷◌, ℕ, Bool, List, None, Option, Some, [], if◌then◌else◌, length, nat_le, nat_lt}
use Rattle.std.specs.{List.after_first, List.before_first, List.slice_split, Str.all_ascii_digits, Str.Parse.digits_value}

-- one to twelve decimal digits and nothing else
abbrev pub is_place : List ℕ → Bool
is_place text = nat_lt 0 (length text) && nat_le (length text) 12 && all_ascii_digits text

-- the place that a text spells
abbrev pub place_of : List ℕ → Option ℕ
place_of text = if is_place text then Some (digits_value 10 text) else None

-- both places, if there are both
abbrev pub both : Option ℕ → Option ℕ → Option (ℕ × ℕ)
both (Some from) (Some to) = Some (from, to)
both from to = None

-- a place before the first hyphen, and one after it
abbrev pub gap_of : List ℕ → Option (ℕ × ℕ)
gap_of text = both (place_of (before_first (λ b. b == 45) text)) (place_of (after_first (λ b. b == 45) text))

-- one gap more, if there is one
abbrev pub and_gaps : Option (ℕ × ℕ) → Option (List (ℕ × ℕ)) → Option (List (ℕ × ℕ))
and_gaps (Some gap) (Some gaps) = Some (gap ∷ gaps)
and_gaps gap gaps = None

-- the gaps of as many texts
abbrev pub each_gap : List (List ℕ) → Option (List (ℕ × ℕ))
each_gap [] = Some []
each_gap (text ∷ texts) = and_gaps (gap_of text) (each_gap texts)

-- the gaps that a text spells: one, or more with a comma between each two
abbrev pub gaps_of : List ℕ → Option (List (ℕ × ℕ))
gaps_of text = each_gap (slice_split (λ b. b == 44) text)
