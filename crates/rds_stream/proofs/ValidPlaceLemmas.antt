-- Words of valid places: places with an offset and without one.
use Rattle.rds_stream.proofs.Names.{common_steps, ◌≡◌, ℕ, ◌+◌, ◌-◌, ◌*◌, ◌/◌, ◌%◌, ◌^◌, ◌<◌, ◌≤◌, sym, ap, ◌∙◌, subst, arith, Option, None, IsSome, inl, inr, bit_or, w64, true≢false, bit_at, cases_lt, bit_at-zero, bit_at_set_same, bit_at_set_other, Offset, Signal, offset_at, NoneValid, TellsValidPlaces}
use Rattle.rds_stream.proofs.{BitOrder.shr_bit, WindowLists.off_early}

pub none_is : (o : Option Offset) → (IsSome o → ⊥) → o ≡ None
none_is o never = grind (arith, common_steps)

pub never_some : (b : Signal) (p : ℕ) → offset_at b p ≡ None → IsSome (offset_at b p) → ⊥
never_some b p none some = true≢false (sym (subst (λ (o : Option Offset). IsSome o) none some))

-- no window ends before place 25
pub valid_late : (b : Signal) (p : ℕ) → IsSome (offset_at b p) → 25 ≤ p
valid_late b p some = elim (cases_lt p 25) [ inl early ↦ absurd (never_some b p (off_early b p early) some) | inr late ↦ late ]

-- a one in the word
pub one_valid : (b : Signal) (next ahead word k : ℕ) → TellsValidPlaces b next ahead word → bit_at word k ≡ 1 → (next + k < ahead) × IsSome (offset_at b (next + k))
one_valid b next ahead word k places one = grind (arith, common_steps)

-- a zero in the word
pub zero_invalid : (b : Signal) (next ahead word k : ℕ) → TellsValidPlaces b next ahead word → next + k < ahead → bit_at word k ≡ 0 → offset_at b (next + k) ≡ None
zero_invalid b next ahead word k places within zero = none_is (offset_at b (next + k)) (λ some. absurd (omega (arith, zero, (places.told k within).1 some)))

-- no ones below some bit
pub none_below : (b : Signal) (next ahead word k : ℕ) → TellsValidPlaces b next ahead word → next + k ≤ ahead → ((j : ℕ) → j < k → bit_at word j ≡ 0) → NoneValid b next (next + k)
none_below b next ahead word k places within zeros i low high =
    let same : next + (i - next) ≡ i = omega arith in
    sym (ap (offset_at b) same) ∙ zero_invalid b next ahead word (i - next) places (omega arith) (zeros (i - next) (omega arith))

-- no ones at all
pub none_ahead : (b : Signal) (next ahead word : ℕ) → TellsValidPlaces b next ahead word → word ≡ 0 → NoneValid b next ahead
none_ahead b next ahead word places zero i low high =
    let same : next + (i - next) ≡ i = omega arith in
    sym (ap (offset_at b) same) ∙ zero_invalid b next ahead word (i - next) places (omega arith) (ap (λ w. bit_at w (i - next)) zero ∙ bit_at-zero (i - next))

pub join_none : (b : Signal) (from p to : ℕ) → NoneValid b from p → NoneValid b p to → NoneValid b from to
join_none b from p to before after i low high = elim (cases_lt i p) [ inl early ↦ before i low early | inr late ↦ after i late high ]

-- places without an offset
pub none_valid : (b : Signal) (next ahead : ℕ) → next ≤ ahead → ahead ≤ next + 64 → NoneValid b next ahead → TellsValidPlaces b next ahead 0
none_valid b next ahead order width none = grind (arith, common_steps, bit_at-zero, never_some)

-- one place more, without an offset
pub with_invalid : (b : Signal) (from p word : ℕ) → TellsValidPlaces b from p word → p < from + 64 → offset_at b p ≡ None → TellsValidPlaces b from (p + 1) word
with_invalid b from p word places few none = grind (arith, common_steps, never_some)

-- one place more, with an offset
pub with_valid : (b : Signal) (from p word : ℕ) → TellsValidPlaces b from p word → p < from + 64 → IsSome (offset_at b p) → TellsValidPlaces b from (p + 1) (bit_or word (1 * 2 ^ (p - from) % 2 ^ 64))
with_valid b from p word places few some =
    let at = p - from in
    let within : at < 64 = omega (arith, places.order) in
    let order = places.order in
    record {
      order = omega arith;
      width = omega arith;
      told = λ k l. elim (cases_lt (from + k) p) [
        | inl early ↦
            let other = bit_at_set_other w64 word at within k (λ e. absurd (omega arith)) in
            let is = places.told k early in
            (λ h. is.0 (sym other ∙ h), λ x. other ∙ is.1 x)
        | inr late ↦
            let same : from + k ≡ p = omega arith in
            let here : k ≡ at = omega arith in
            (λ h. subst (λ (i : ℕ). IsSome (offset_at b i)) (sym same) some, λ x. ap (bit_at (bit_or word (1 * 2 ^ at % 2 ^ 64))) here ∙ bit_at_set_same w64 word at within)
      ];
      past = λ k l. bit_at_set_other w64 word at within k (λ e. absurd (omega arith)) ∙ places.past k (omega arith);
    }

-- the places from one of them on
pub later_places : (b : Signal) (next ahead word place : ℕ) → TellsValidPlaces b next ahead word → next ≤ place → place ≤ ahead → TellsValidPlaces b place ahead (word / 2 ^ (place - next))
later_places b next ahead word place places low high = grind (arith, common_steps, shr_bit)

-- the places after one whose bit is a one
pub places_behind : (b : Signal) (next ahead word bit rest : ℕ) → TellsValidPlaces b next ahead word → bit_at word bit ≡ 1 → ((k : ℕ) → bit_at rest k ≡ bit_at word (k + (bit + 1)))
    → TellsValidPlaces b (next + bit + 1) ahead rest
places_behind b next ahead word bit rest places one is = grind (arith, common_steps, one_valid)
