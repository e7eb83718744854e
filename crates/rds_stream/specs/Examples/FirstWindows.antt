-- The first valid window in the rest of the zero group, and the rest after it.
use Rattle.std.{specs.Prelude.◌≡◌, specs.Prelude.ℕ, specs.Prelude.◌+◌, specs.Prelude.◌-◌, specs.Prelude.List, specs.Prelude.Option, specs.Prelude.Some, specs.Prelude.None, specs.Prelude.map, specs.Prelude.get_or, specs.Prelude.is_some, specs.Prelude.refl, specs.List.range_with_len, proofs.Common.◌∙◌, proofs.Common.ap, proofs.Common.arith, proofs.Common.sym, proofs.Common.true≢false, proofs.lemmas.List.FromFn.get_or-map-range_with_len}
use Rattle.rds_code.specs.{declared.offset.Offset.Offset, declared.offset.Offset.TheVariants.B, declared.offset.Offset.TheVariants.D, Remainder.rem}
use Rattle.rds_stream.specs.{Recording.window, Recording.touched, Recording.heard, Recording.offset_at, ValidWindows.WindowsLeft, ValidWindows.GivesFirst, ValidWindows.NoneValid, Examples.ZeroGroup.once}

abbrev pub left : ℕ → ℕ → WindowsLeft
left next end = record { signal = once; next = next; end = end }

-- the offsets of n places from `from` on
abbrev pub offsets : ℕ → ℕ → List (Option Offset)
offsets from n = map (offset_at once) (range_with_len from n)

-- places of which each has none
pub none_of : (from n : ℕ) → offsets from n ≡ map (λ i. None) (range_with_len from n)
    → NoneValid once from (from + n)
none_of from n none i low high =
    sym (get_or-map-range_with_len (offset_at once) from n (i - from) i None (omega (arith, low, high)) (omega (arith, low)))
    ∙ ap (λ found. get_or found (i - from) None) none
    ∙ get_or-map-range_with_len (λ j. None) from n (i - from) i None (omega (arith, low, high)) (omega (arith, low))

-- ---- which places have none

pub none_78_to_96 : NoneValid once 78 96
unfolding rem window touched heard offset_at
none_78_to_96 = none_of 78 18 refl

pub none_97_to_103 : NoneValid once 97 103
unfolding rem window touched heard offset_at
none_97_to_103 = none_of 97 6 refl

pub at_96 : offset_at once 96 ≡ Some B
unfolding rem window touched heard offset_at
at_96 = refl

-- so these places and the next do not all have none
pub not_none_78_to_97 : NoneValid once 78 97 → ⊥
not_none_78_to_97 none = true≢false (ap is_some (sym at_96 ∙ none 96 (omega arith) (omega arith)))

-- ---- the window given

pub first_from_78 : GivesFirst (left 78 104) (Some (96, B)) (left 97 104)
first_from_78 = (omega arith, omega arith, none_78_to_96, at_96, refl)

-- after it there is none before place 103, and nothing is left
pub none_behind_96 : GivesFirst (left 97 103) None (left 103 103)
none_behind_96 = (none_97_to_103, refl)

-- a later one is not the first
pub not_a_later_one : GivesFirst (left 78 104) (Some (103, D)) (left 104 104) → ⊥
not_a_later_one gives = not_none_78_to_97 (λ i low high. gives.2 i low (omega (arith, high)))

-- a window that was given is not left
pub not_once_more : GivesFirst (left 78 104) (Some (96, B)) (left 96 104) → ⊥
not_once_more gives = absurd (omega (arith, ap (λ w. w.next) gives.4))

-- if there is one, none is not given
pub not_none : GivesFirst (left 78 104) None (left 104 104) → ⊥
not_none gives = not_none_78_to_97 (λ i low high. gives.0 i low (omega (arith, high)))
