-- How long a sound range is by both rules of loss, and eight zero groups: a sound range of 260 bits, if one bad block loses a lock and three rivals have one place modulo 26.
use Rattle.std.specs.Prelude.{◌≡◌, ◌≢◌, ℕ, ◌+◌, ◌-◌, ◌*◌, ◌/◌, ◌%◌, ◌<◌, ◌≤◌, ◌⊎◌, ◌==◌, ◌&&◌, ◌||◌, not, Bool, true, false, List, [], ◌∷◌, length, Option, Some, None, is_some, refl}
use Rattle.std.{specs.List.filter, specs.List.list_all, specs.List.range_with_len, proofs.Common.sym, proofs.Common.subst, proofs.Common.◌∙◌, proofs.Common.inl, proofs.Common.inr, proofs.Common.get_or, proofs.Common.arith, proofs.lemmas.Bool.eqb-true, proofs.lemmas.Bool.false≢true, proofs.lemmas.Bool.cases_lt, proofs.lemmas.List.FromFn.get_or-range_with_len, proofs.lemmas.List.FromFn.length-range_with_len, proofs.lemmas.List.Sums.AllPass-from_list_all}
use Rattle.rds_code.specs.Cycle.{number_after}
use Rattle.rds_stream.specs.Recording.{Signal, offset_at}
use Rattle.rds_sync.specs.{declared.loss.Loss.TheVariants.Run, declared.loss.Loss.TheVariants.Share, Rules.RuleNumbers, Acquiring.acquired, Acquiring.has_number, Convergence.sound_bits, Convergence.IsSound, Convergence.IsRival, Convergence.AreRivals, Examples.Words.first, Examples.Words.zero_groups, Examples.Words.rules_of, Examples.Words.computed}

abbrev pub b : Signal
b = first 832 (zero_groups 8)

abbrev pub rules : RuleNumbers
rules = rules_of 2 3 1

-- the windows that are valid by chance: three at place 19 modulo 26, two at place 18
pub valid_by_chance : filter (λ r. is_some (offset_at b r) && not (r % 26 == 25)) (range_with_len 104 260)
    ≡ 123 ∷ 200 ∷ 227 ∷ 304 ∷ 331 ∷ []
unfolding computed
valid_by_chance = refl

-- the condition at each place of the range, as a test
unfoldable is_as_told : ℕ → Bool
is_as_told r = (r % 26 == 25) || (not (is_some (acquired b rules r)) &&
    (not (is_some (offset_at b r)) || (r % 104 == 19) || (r % 104 == 96)))

all_as_told : list_all is_as_told (range_with_len 104 260) ≡ true
unfolding is_as_told computed
all_as_told = refl

unfoldable is_block : ℕ → Bool
is_block k = has_number b (129 + 26 * k) (number_after 1 k)

all_blocks : list_all is_block (range_with_len 0 10) ≡ true
unfolding is_block computed
all_blocks = refl

-- a test that all places of a range pass, each passes
each : (test : ℕ → Bool) (from n : ℕ) → list_all test (range_with_len from n) ≡ true → (i : ℕ) → i < n
    → test (from + i) ≡ true
each test from n all i within =
    let long = length-range_with_len from n in
    subst (λ (r : ℕ). test r ≡ true) (get_or-range_with_len from n i 0 within)
    (AllPass-from_list_all test (range_with_len from n) all i 0 (omega (arith, long, within)))

block : (k : ℕ) → 129 + 26 * k < 364 → has_number b (129 + 26 * k) (number_after 1 k) ≡ true
unfolding is_block
block k within =
    let same : 0 + k ≡ k = omega arith in
    subst (λ (n : ℕ). is_block n ≡ true) same (each is_block 0 10 all_blocks k (omega (arith, within)))

none_of : {A : Type 0} (o : Option A) → not (is_some o) ≡ true → o ≡ None
none_of None e = refl
none_of (Some a) e = absurd (false≢true e)

told : (on none valid one other : Bool) → (on || (none && (not valid || one || other))) ≡ true → on ≢ true
    → (none ≡ true) × (valid ≡ true → (one ≡ true) ⊎ (other ≡ true))
told true none valid one other e off_it = absurd (off_it refl)
told false false valid one other e off_it = absurd (false≢true e)
told false true false one other e off_it = (refl, λ f. absurd (false≢true f))
told false true true true other e off_it = (refl, λ _. inl refl)
told false true true false true e off_it = (refl, λ _. inr refl)
told false true true false false e off_it = absurd (false≢true e)

-- a rival does not acquire, and is at one of two places modulo 104
pub rival : (r : ℕ) → IsRival b 104 364 129 r
    → (acquired b rules r ≡ None) × ((r % 104 ≡ 19) ⊎ (r % 104 ≡ 96))
unfolding is_as_told
rival r is =
    let inside = is.inside in
    let place : 104 + (r - 104) ≡ r = omega (arith, inside) in
    let said : is_as_told r ≡ true = subst (λ (q : ℕ). is_as_told q ≡ true) place (each is_as_told 104 260 all_as_told (r - 104) (omega (arith, inside))) in
    let other : (r % 26 == 25) ≢ true = λ e. is.elsewhere ((r - 129) / 26) (omega (arith, inside, eqb-true (r % 26) 25 e)) in
    let both = told (r % 26 == 25) (not (is_some (acquired b rules r))) (is_some (offset_at b r)) (r % 104 == 19) (r % 104 == 96) said other in (
      none_of (acquired b rules r) both.0,
      elim (both.1 is.valid) [
        | inl one ↦ inl (eqb-true (r % 104) 19 one)
        | inr two ↦ inr (eqb-true (r % 104) 96 two)
      ],
    )

-- so rivals with one place modulo 26 are 104 places apart
few : (phase : ℕ) (rivals : List ℕ) → AreRivals b 104 364 129 phase rivals → length rivals ≤ 3
few phase rivals are = elim (cases_lt 3 (length rivals)) [
  | inl many ↦
      let at = λ (k : ℕ) (within : k < length rivals). are.1 k 0 within in
      let apart : (k : ℕ) → k + 1 < length rivals → get_or rivals k 0 + 104 ≤ get_or rivals (k + 1) 0 = λ k within.
      let low = at k (omega (arith, within)) in
      let high = at (k + 1) within in
      let rises = are.0 k within in
      let phases : get_or rivals k 0 % 26 ≡ get_or rivals (k + 1) 0 % 26 = low.1 ∙ sym high.1 in
      elim ((rival (get_or rivals k 0) low.0).1) [
        | inl a ↦ elim ((rival (get_or rivals (k + 1) 0) high.0).1) [ inl b ↦ omega (arith, rises, a, b) | inr b ↦ absurd (omega (arith, phases, a, b)) ]
        | inr a ↦ elim ((rival (get_or rivals (k + 1) 0) high.0).1) [ inl b ↦ absurd (omega (arith, phases, a, b)) | inr b ↦ omega (arith, rises, a, b) ]
      ] in
      let first = (at 0 (omega (arith, many))).0.inside in
      let last = (at 3 (omega (arith, many))).0.inside in
      absurd (omega (arith, first, last, apart 0 (omega (arith, many)), apart 1 (omega (arith, many)), apart 2 (omega (arith, many))))
  | inr small ↦ small
]

pub is_sound : IsSound b rules 3 104 129 1
is_sound =
    let long : length b.bits ≡ 832 = refl in
    record {
      inside = omega (arith, long);
      number = (omega arith, omega arith);
      sequence = record { first = (omega arith, omega arith); numbers = block };
      none_acquires = λ r is. (rival r is).0;
      few = few;
    }

-- ---- how long a sound range is: by default, and if two rivals have one place modulo 26; by a share, of which one decides: the losses, or
-- the blocks that are looked at
pub lengths : (sound_bits (Run 10) 0 ≡ 416) × (sound_bits (Run 10) 2 ≡ 936)
    × (sound_bits (Share 2 4) 4 ≡ 416) × (sound_bits (Share 2 64) 0 ≡ 1820)
lengths = (refl, refl, refl, refl)
