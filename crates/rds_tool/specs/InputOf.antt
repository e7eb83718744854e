-- The fields of an input, as contracts see them: this project's rule. Two values of `Input` are equal if they
-- say the same.
use Rattle.std.specs.{Prelude.ℕ, Prelude.◌==◌, Prelude.Bool, Prelude.List, Prelude.Option, Bool.beq, Cmp.IsEquivalence, Cmp.and_equiv, Cmp.bool_eq_equiv, Cmp.nat_eq_equiv, Cmp.on_equiv, Cmp.Lexicographic.lists_equiv, Cmp.Lexicographic.options_equiv, Cmp.Lexicographic.pointwise, Option.option_eq, Ordering.eq_of_both, Ordering.on}

-- whether it is hexadecimal text, how many bits are claimed, and the gaps: each the places from its first number to before its
-- second
pub record InputOf : Type 0 where
  pub hex : Bool
  pub bits : Option ℕ
  pub gaps : List (ℕ × ℕ)

-- whether two gaps have the same ends
abbrev pub same_gap : ℕ × ℕ → ℕ × ℕ → Bool
same_gap = eq_of_both (on (λ (gap : ℕ × ℕ). gap.0) ◌==◌) (on (λ (gap : ℕ × ℕ). gap.1) ◌==◌)

-- whether two inputs say the same
abbrev pub says_same : InputOf → InputOf → Bool
says_same = eq_of_both (on (λ (i : InputOf). i.hex) beq) (eq_of_both (on (λ (i : InputOf). i.bits) (option_eq ◌==◌))
    (on (λ (i : InputOf). i.gaps) (pointwise same_gap)))

same_gap_equiv : IsEquivalence same_gap
same_gap_equiv = and_equiv (on_equiv (λ (gap : ℕ × ℕ). gap.0) nat_eq_equiv) (on_equiv (λ (gap : ℕ × ℕ). gap.1) nat_eq_equiv)

pub says_same_equiv : IsEquivalence says_same
says_same_equiv =
    and_equiv (on_equiv (λ (i : InputOf). i.hex) bool_eq_equiv)
    (and_equiv (on_equiv (λ (i : InputOf). i.bits) (options_equiv nat_eq_equiv))
    (on_equiv (λ (i : InputOf). i.gaps) (lists_equiv same_gap_equiv)))
