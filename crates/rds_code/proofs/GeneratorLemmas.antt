-- Of 512 polynomials only the generator and its mirror have period 341 and tell bursts apart. Computed, polynomial by polynomial: nearly all have
-- two bursts with one remainder, which few steps find. The standard's
-- syndrome and the remainder are linear, so they are compared bit by bit.
use Rattle.rds_code.proofs.Names.{common_steps, ◌≡◌, ℕ, zero, suc, ◌+◌, ◌-◌, ◌*◌, ◌/◌, ◌%◌, ◌^◌, ◌<◌, List, [], ◌∷◌, Bool, true, false, refl, sym, ap, ap₂, ◌∙◌, arith, inl, inr, eqb, not, bit_xor, ◌⊎◌, pow-suc, bit_at, xor_self, xor_shifted, xor_shr, xor_mod, bit_at_xor, bit_at-lt, cases_Bool, cases_lt, eq-eqb, eqb-true, cond, ltb, ltb-true, mul_assoc, mul-le-mul_right, pow_mono, bit_at_above, zero-mul, xor_zero_r, ◌≤◌, subst, IsBurst, generator, rem, bursts}
use Rattle.rds_code.{specs.Generator.times_x, specs.Generator.times_power, specs.Generator.HasPeriod, specs.Generator.remainder_by, specs.Generator.TellsApart, specs.Generator.mirror, specs.Generator.AreGeneratorAndMirror, specs.Generator.DividesAlike, specs.Generator.parity_rows, specs.Generator.syndrome, specs.Generator.SyndromesAreRemainders, proofs.RemainderLemmas.rem-xor, proofs.RemainderLemmas.swap_inner, proofs.RemainderLemmas.xor_times, proofs.Membership.all_below, proofs.Membership.both_pass, proofs.Membership.passes_below, proofs.Membership.one_of_each, proofs.BurstLemmas.burst_is_one, proofs.BurstLemmas.burst_is_among, proofs.BurstLemmas.pattern_is_burst}

-- ---- linear maps

abbrev IsLinearMap : (ℕ → ℕ) → Type 0
IsLinearMap f = (u v : ℕ) → f (bit_xor u v) ≡ bit_xor (f u) (f v)

linear-zero : (f : ℕ → ℕ) → IsLinearMap f → f 0 ≡ 0
linear-zero f linear = ap f (sym (xor_self 0)) ∙ linear 0 0 ∙ xor_self (f 0)

-- two that agree on each power of two below 2^n agree below 2^n
agree : (f g : ℕ → ℕ) → IsLinearMap f → IsLinearMap g → (n : ℕ) → ((t : ℕ) → t < n → f (2 ^ t) ≡ g (2 ^ t)) → (w : ℕ) → w < 2 ^ n → f w ≡ g w
agree f g lf lg zero h w small = grind (arith, common_steps, linear-zero)
agree f g lf lg (suc n) h w small =
    let rest = agree f g lf lg n (λ t less. h t (omega (arith, less))) in
    elim (cases_lt w (2 ^ n)) [
      | inl low ↦ rest w low
      | inr high ↦
          let r : ℕ = w - 2 ^ n in
          let below : r < 2 ^ n = omega (arith, small, pow-suc 2 n, high) in
          let one : 1 * 2 ^ n ≡ 2 ^ n = omega arith in
          let whole : w ≡ bit_xor (2 ^ n) r = omega (arith, high) ∙ sym (xor_shifted 1 n r below) ∙ ap (λ (m : ℕ). bit_xor m r) one in
          ap f whole ∙ lf (2 ^ n) r ∙ ap₂ bit_xor (h n (omega arith)) (rest r below) ∙ sym (lg (2 ^ n) r) ∙ ap g (sym whole)
    ]

-- computed on each power
agree_by : (f g : ℕ → ℕ) → IsLinearMap f → IsLinearMap g → (n : ℕ) → all_below (λ t. eqb (f (2 ^ t)) (g (2 ^ t))) n ≡ true → (w : ℕ) → w < 2 ^ n → f w ≡ g w
agree_by f g lf lg n h = agree f g lf lg n (λ t less. eqb-true (f (2 ^ t)) (g (2 ^ t)) (passes_below (λ s. eqb (f (2 ^ s)) (g (2 ^ s))) n t h less))

double_xor : (u v : ℕ) → 2 * bit_xor u v ≡ bit_xor (2 * u) (2 * v)
double_xor u v =
    let half_u : 2 * u / 2 ≡ u = omega arith in
    let half_v : 2 * v / 2 ≡ v = omega arith in
    let low_u : 2 * u % 2 ≡ 0 = omega arith in
    let low_v : 2 * v % 2 ≡ 0 = omega arith in
    let half : bit_xor (2 * u) (2 * v) / 2 ≡ bit_xor u v = xor_shr (2 * u) (2 * v) 1 ∙ ap₂ bit_xor half_u half_v in
    let low : bit_xor (2 * u) (2 * v) % 2 ≡ 0 = xor_mod (2 * u) (2 * v) 1 ∙ ap₂ bit_xor low_u low_v ∙ xor_self 0 in
    omega (arith, half, low)

times_x-xor : (p : ℕ) → IsLinearMap (times_x p)
times_x-xor p u v =
    ap₂ bit_xor (double_xor u v) (ap (λ (b : ℕ). b * p) (bit_at_xor u v 9) ∙ xor_times (bit_at u 9) (bit_at v 9) p (bit_at-lt u 9) (bit_at-lt v 9))
    ∙ swap_inner (2 * u) (2 * v) (bit_at u 9 * p) (bit_at v 9 * p)

times_power-xor : (p t : ℕ) → IsLinearMap (times_power p t)
unfolding times_power
times_power-xor p zero u v = refl
times_power-xor p (suc t) u v = ap (times_x p) (times_power-xor p t u v) ∙ times_x-xor p (times_power p t u) (times_power p t v)

remainder_by-xor : (p k : ℕ) → IsLinearMap (remainder_by p k)
unfolding remainder_by
remainder_by-xor p zero u v = sym (xor_self 0)
remainder_by-xor p (suc k) u v =
    ap₂ (λ (h l : ℕ). bit_xor (times_x p (remainder_by p k h)) l) (xor_shr u v 1) (xor_mod u v 1)
    ∙ ap (λ (n : ℕ). bit_xor n (bit_xor (u % 2) (v % 2))) (ap (times_x p) (remainder_by-xor p k (u / 2) (v / 2)) ∙ times_x-xor p (remainder_by p k (u / 2)) (remainder_by p k (v / 2)))
    ∙ swap_inner (times_x p (remainder_by p k (u / 2))) (times_x p (remainder_by p k (v / 2))) (u % 2) (v % 2)

-- ---- the remainder, by each bit

pub divides_alike : DividesAlike
unfolding rem remainder_by
divides_alike = agree_by (remainder_by generator 26) rem (remainder_by-xor generator 26) rem-xor 26 refl

-- ---- the two polynomials

-- whether one of r times x^1 to x^n, modulo p, passes the test
finds : (ℕ → Bool) → ℕ → ℕ → ℕ → Bool
finds test p zero r = false
finds test p (suc n) r = cond (test (times_x p r)) true (finds test p n (times_x p r))

first_step : (p t r : ℕ) → times_power p t (times_x p r) ≡ times_power p (suc t) r
unfolding times_power
first_step p zero r = refl
first_step p (suc t) r = ap (times_x p) (first_step p t r)

finds_none : (test : ℕ → Bool) (p n r t : ℕ) → finds test p n r ≡ false → t < n → test (times_power p (suc t) r) ≡ false
unfolding finds times_power
finds_none test p zero r t h less = absurd (omega (arith, less))
finds_none test p (suc n) r zero h less = grind (arith, common_steps)
finds_none test p (suc n) r (suc t) h less = grind (arith, common_steps, first_step p (suc t) r, finds_none test p n (times_x p r) t)

none_found : (test : ℕ → Bool) (p n r : ℕ) → ((t : ℕ) → t < n → test (times_power p (suc t) r) ≡ false) → finds test p n r ≡ false
unfolding finds times_power
none_found test p zero r each = refl
none_found test p (suc n) r each = ap₂ (λ (a b : Bool). cond a true b) (each 0 (omega arith)) (none_found test p n (times_x p r) (λ t less. ap test (first_step p (suc t) r) ∙ each (suc t) (omega (arith, less))))

-- x^341 is 1 modulo p, and no power before is
has_period : (p : ℕ) → times_power p 341 1 ≡ 1 → finds (eqb 1) p 340 1 ≡ false → HasPeriod p 341
has_period p one none = record {
  later = omega arith;
  one = one;
  first = λ t pos less same.
      let next : suc (t - 1) ≡ t = omega (arith, pos) in
      let other = finds_none (eqb 1) p 340 1 (t - 1) none (omega (arith, pos, less)) in
      let no : true ≡ false = sym (eq-eqb 1 (times_power p (suc (t - 1)) 1) (sym (ap (λ (s : ℕ). times_power p s 1) next ∙ same))) ∙ other in
      cc no;
}

-- ---- the others

-- an odd pattern of up to five bits
is_pattern : ℕ → Bool
is_pattern r = cond (ltb r 32) (eqb (r % 2) 1) false

-- whether p takes the pattern 2 * half + 1, shifted up, for another
confuses : ℕ → ℕ → Bool
confuses p half = finds is_pattern p 21 (2 * half + 1)

-- whether two bursts have one remainder by p, or p has another period
is_other : ℕ → Bool
is_other p = cond (all_below (λ half. not (confuses p half)) 16) (not (eqb (times_power p 341 1) 1)) true

is_settled : ℕ → Bool
is_settled p = elim (eqb p generator) [ true ↦ true | false ↦ elim (eqb p mirror) [ true ↦ true | false ↦ is_other p ] ]

all_settled : all_below (λ half. is_settled (2 * half + 1025)) 512 ≡ true
unfolding is_settled is_other confuses finds is_pattern times_power
all_settled = refl

doubled : (w t : ℕ) → w * 2 ^ suc t ≡ 2 * (w * 2 ^ t)
doubled w t = omega (arith, ap (λ (n : ℕ). w * n) (pow-suc 2 t), mul_assoc w (2 ^ t) 2)

-- a number below 32 is its own remainder
own_remainder : (p k w : ℕ) → w < 2 ^ k → w < 32 → remainder_by p k w ≡ w
unfolding remainder_by
own_remainder p zero w small short = omega (arith, small)
own_remainder p (suc k) w small short =
    let top : bit_at (w / 2) 9 ≡ 0 = bit_at_above (w / 2) 9 9 (omega (arith, short)) (omega arith) in
    let none : bit_xor (2 * (w / 2)) (bit_at (w / 2) 9 * p) ≡ w / 2 * 2 ^ 1 = ap (λ (b : ℕ). bit_xor (2 * (w / 2)) (b * p)) top ∙ ap (bit_xor (2 * (w / 2))) (zero-mul p) ∙ xor_zero_r (2 * (w / 2)) ∙ omega arith in
    ap (λ (r : ℕ). bit_xor (times_x p r) (w % 2)) (own_remainder p k (w / 2) (omega (arith, small, pow-suc 2 k)) (omega (arith, short)))
    ∙ ap (λ (n : ℕ). bit_xor n (w % 2)) none
    ∙ xor_shifted (w / 2) 1 (w % 2) (omega arith)
    ∙ omega arith

remainder_by-shift : (p k t w : ℕ) → remainder_by p (t + k) (w * 2 ^ t) ≡ times_power p t (remainder_by p k w)
unfolding remainder_by times_power
remainder_by-shift p k zero w =
    let none : 0 + k ≡ k = omega arith in
    let same : w * 2 ^ 0 ≡ w = omega arith in
    ap₂ (remainder_by p) none same
remainder_by-shift p k (suc t) w =
    let next : suc t + k ≡ suc (t + k) = omega arith in
    let half : w * 2 ^ suc t / 2 ≡ w * 2 ^ t = omega (arith, doubled w t) in
    let even : w * 2 ^ suc t % 2 ≡ 0 = omega (arith, doubled w t) in
    ap (λ (m : ℕ). remainder_by p m (w * 2 ^ suc t)) next
    ∙ ap₂ (λ (h l : ℕ). bit_xor (times_x p (remainder_by p (t + k) h)) l) half even
    ∙ xor_zero_r (times_x p (remainder_by p (t + k) (w * 2 ^ t)))
    ∙ ap (times_x p) (remainder_by-shift p k t w)

-- the two would be one burst
confuses_none : (p half t : ℕ) → half < 16 → t < 21 → TellsApart p → is_pattern (times_power p (suc t) (2 * half + 1)) ≡ false
unfolding is_pattern
confuses_none p half t few short tells = elim (cases_Bool (is_pattern (times_power p (suc t) (2 * half + 1)))) [
  | inl is ↦
      let m : ℕ = 2 * half + 1 in
      let q : ℕ = times_power p (suc t) m in
      let parts = both_pass (ltb q 32) (eqb (q % 2) 1) is in
      let small : q < 32 = ltb-true q 32 parts.0 in
      let odd : q % 2 ≡ 1 = eqb-true (q % 2) 1 parts.1 in
      let d : ℕ = m * 2 ^ suc t in
      let less : m ≤ 31 = omega (arith, few) in
      let inside : d < 2 ^ 26 = omega (arith, pow_mono {i = suc t} {j = 21} (omega (arith, short)), mul-le-mul_right (2 ^ suc t) less) in
      let same : q * 2 ^ 0 ≡ q = omega arith in
      let alone : IsBurst 5 q = subst (IsBurst 5) same (pattern_is_burst q 0 odd small (omega arith) (omega (arith, small))) in
      let count : suc t + (25 - t) ≡ 26 = omega (arith, short) in
      let divided : remainder_by p 26 d ≡ q =
      ap (λ (k : ℕ). remainder_by p k d) (sym count)
      ∙ remainder_by-shift p (25 - t) (suc t) m
      ∙ ap (times_power p (suc t)) (own_remainder p (25 - t) m (omega (arith, less, pow_mono {i = 5} {j = 25 - t} (omega (arith, short)))) (omega (arith, less))) in
      let one : d ≡ q = tells d q (pattern_is_burst m (suc t) (omega arith) (omega (arith, less)) (omega (arith, short)) inside) alone (divided ∙ sym (own_remainder p 26 q (omega (arith, small)) small)) in
      absurd (omega (arith, one, odd, doubled m t))
  | inr none ↦ none
]

all_pass_below : (p : ℕ → Bool) (n : ℕ) → ((i : ℕ) → i < n → p i ≡ true) → all_below p n ≡ true
all_pass_below p zero each = refl
all_pass_below p (suc n) each = ap₂ (λ (a b : Bool). cond a b false) (each n (omega arith)) (all_pass_below p n (λ i less. each i (omega (arith, less))))

other_is_out : (p : ℕ) → is_other p ≡ true → HasPeriod p 341 → TellsApart p → ⊥
unfolding is_other confuses
other_is_out p h period tells =
    let apart : all_below (λ half. not (confuses p half)) 16 ≡ true = all_pass_below (λ half. not (confuses p half)) 16 (λ half few. ap not (none_found is_pattern p 21 (2 * half + 1) (λ t short. confuses_none p half t few short tells))) in
    let wrong : false ≡ true = sym (ap₂ (λ (a b : Bool). cond a (not b) true) apart (eq-eqb (times_power p 341 1) 1 period.one)) ∙ h in
    cc wrong

settled : (p : ℕ) → is_settled p ≡ true → HasPeriod p 341 → TellsApart p → (p ≡ generator) ⊎ (p ≡ mirror)
unfolding is_settled
settled p h period tells = grind (arith, common_steps, eqb-true, is_settled, is_other, other_is_out)

generator_tells : TellsApart generator
generator_tells d e hd he same = burst_is_one d e hd he (sym (divides_alike d hd.is_block) ∙ same ∙ divides_alike e he.is_block)

mirror_tells_apart : TellsApart mirror
unfolding remainder_by
mirror_tells_apart d e hd he same = one_of_each (remainder_by mirror 26) (bursts 5) refl d e (burst_is_among d hd) (burst_is_among e he) same

pub are_generator_and_mirror : AreGeneratorAndMirror 341
unfolding times_power finds
are_generator_and_mirror = record {
  period = has_period generator refl refl;
  told = generator_tells;
  mirror_period = has_period mirror refl refl;
  mirror_told = mirror_tells_apart;
  no_other = λ p candidate period tells.
      let whole : 2 * (p / 2 - 512) + 1025 ≡ p = omega (arith, candidate.odd, candidate.not_less) in
      let here = passes_below (λ half. is_settled (2 * half + 1025)) 512 (p / 2 - 512) all_settled (omega (arith, candidate.not_less, candidate.not_more)) in
      settled p (ap is_settled (sym whole) ∙ here) period tells;
}

-- ---- the standard's syndrome

syndrome-xor : (rows : List ℕ) → IsLinearMap (syndrome rows)
unfolding syndrome
syndrome-xor [] u v = sym (xor_self 0)
syndrome-xor (row ∷ rows) u v = grind (arith, common_steps, bit_at_xor, xor_times, bit_at-lt, swap_inner, syndrome-xor rows u v)

pub syndromes_are_remainders : SyndromesAreRemainders
unfolding rem times_power syndrome
syndromes_are_remainders =
    agree_by (λ w. times_power generator 16 (syndrome parity_rows w)) rem
    (λ u v. ap (times_power generator 16) (syndrome-xor parity_rows u v) ∙ times_power-xor generator 16 (syndrome parity_rows u) (syndrome parity_rows v))
    rem-xor 26 refl
