-- Words that planes hold, and the remainders that are offset words.
use Rattle.rds_stream.proofs.Names.{common_steps, ◌≡◌, ◌≢◌, ◌↔◌, ℕ, ◌+◌, ◌-◌, ◌^◌, ◌<◌, sym, ap, ◌∙◌, subst, arith, bit_and, bit_or, bit_xor, List, None, IsSome, inl, inr, bit_at, cases_eq, ne_eqb, bit_at_and, bit_at_or, bit_at_xor, bit_at-lt, same_from_bits_below, word, offset_of, HoldInLane, lane, below_more, A, B, C, Cx, D}
use Rattle.std.proofs.lemmas.Bool.{true≢false}

-- at bit k of lane j the lowest n planes hold the lowest n bits of the word
abbrev pub Agree : List (List ℕ) → ℕ → ℕ → ℕ → ℕ → Type 0
Agree planes word n j k = (r : ℕ) → r < n → bit_at (lane planes r j) k ≡ bit_at word r

-- one more plane, turned over where the word has no one
pub agree_more : (planes : List (List ℕ)) (word same plane flip r j k : ℕ) → plane ≡ lane planes r j → bit_at flip k ≡ 1 - bit_at word r
    → ((bit_at same k ≡ 1) ↔ Agree planes word r j k) → (bit_at (bit_and same (bit_xor plane flip)) k ≡ 1) ↔ Agree planes word (r + 1) j k
agree_more planes word same plane flip r j k is turn so =
    let both = bit_at_and same (bit_xor plane flip) k in
    let other = bit_at_xor plane flip k in
    let here = ap (λ p. bit_at p k) is in
    let old = bit_at-lt same k in
    let bit = bit_at-lt plane k in
    let digit = bit_at-lt word r in (
      λ h. below_more (λ s. bit_at (lane planes s j) k ≡ bit_at word s) r (so.0 (omega (arith, both, other))) (omega (arith, both, other)),
      λ h.
          let one : bit_at same k ≡ 1 = so.1 (λ s l. h s (omega arith)) in
          let last : bit_at (lane planes r j) k ≡ bit_at word r = h r (omega arith) in
          omega (arith, both, other),
    )

one_of : (x : ℕ) → x < 2 → ((x ≡ 1) → ⊥) → x ≡ 0
one_of x small never = elim (cases_eq x 1) [ inl e ↦ absurd (never e) | inr n ↦ omega arith ]

-- planes that hold a remainder agree with a word just where it is the word
pub agree_is : (planes : List (List ℕ)) (word remainder j k : ℕ) → word < 2 ^ 10 → HoldInLane planes j k remainder → Agree planes word 10 j k ↔ (remainder ≡ word)
agree_is planes word remainder j k small held = (
  λ h. same_from_bits_below 10 remainder word held.small small (λ r l. sym (held.bits r l) ∙ h r l),
  λ e r l. held.bits r l ∙ ap (λ x. bit_at x r) e,
)

pub not_one : (n i : ℕ) → ((bit_at n i ≡ 1) → ⊥) → bit_at n i ≡ 0
not_one n i never = one_of (bit_at n i) (bit_at-lt n i) never

no_offset : (r : ℕ) → r ≢ word A → r ≢ word B → r ≢ word C → r ≢ word Cx → r ≢ word D → offset_of r ≡ None
no_offset r a b c x d = grind (arith, common_steps, ne_eqb)

-- a bit that is one of five: each tells whether r is one of the offset words
pub offset_bit : (r a b c x d n k : ℕ) →
    ((bit_at a k ≡ 1) ↔ (r ≡ word A)) → ((bit_at b k ≡ 1) ↔ (r ≡ word B)) → ((bit_at c k ≡ 1) ↔ (r ≡ word C)) → ((bit_at x k ≡ 1) ↔ (r ≡ word Cx)) → ((bit_at d k ≡ 1) ↔ (r ≡ word D)) →
    n ≡ bit_or (bit_or (bit_or a b) (bit_or c x)) d → (bit_at n k ≡ 1) ↔ IsSome (offset_of r)
offset_bit r a b c x d n k is_a is_b is_c is_x is_d sum = grind (arith, common_steps, bit_at_or, bit_at-lt, no_offset, one_of, true≢false)

-- the same of a number that is the word
pub told : (n k r v w : ℕ) → v ≡ w → ((bit_at n k ≡ 1) ↔ (r ≡ v)) → (bit_at n k ≡ 1) ↔ (r ≡ w)
told n k r v w same is = subst (λ x. (bit_at n k ≡ 1) ↔ (r ≡ x)) same is
