-- The lightest flips have the least weight, and all others weigh at least the second.
use Rattle.rds_soft.proofs.Names.{common_steps, ◌≡◌, ◌≢◌, ℕ, zero, suc, ◌+◌, ◌^◌, ◌<◌, ◌≤◌, Bool, true, false, refl, sym, ap, ◌∙◌, arith, bit_xor, subst, min, rules, ◌⊎◌, inl, inr, nat_lt, lit<, pow-suc, min-le_left, min-le_right, min-eq_left, min-eq_right, cases_lt, sum_of, weigh, of_none, least, is_flipped, lightest, second}
use Rattle.rds_soft.proofs.LightestLemmas.{Reach, undone, without, with_top, ways, least_below}

-- flips of this weight
pub record Weighs (e c : ℕ → ℕ) (n s flips w : ℕ) : Type 0 where
  pub reach : Reach e n s flips
  pub weight : weigh c n flips ≡ w

weighs_kept : (e c : ℕ → ℕ) (n s flips w : ℕ) → Weighs e c n s flips w → Weighs e c (suc n) s flips w
weighs_kept e c n s flips w h =
    let low = without e c n flips h.reach.small in
    record {
      reach = record { small = omega (arith, h.reach.small, pow-suc 2 n); sum = low.sum ∙ h.reach.sum };
      weight = low.weight ∙ h.weight;
    }

weighs_turned : (e c : ℕ → ℕ) (n s rest w : ℕ) → Weighs e c n (bit_xor s (e n)) rest w → Weighs e c (suc n) s (2 ^ n + rest) (w + c n)
weighs_turned e c n s rest w h =
    let high = with_top e c n (2 ^ n + rest) rest refl h.reach.small in
    let sum : sum_of e (suc n) (2 ^ n + rest) ≡ s = high.sum ∙ ap (λ (x : ℕ). bit_xor x (e n)) h.reach.sum ∙ undone s (e n) in
    record {
      reach = record { small = omega (arith, h.reach.small, pow-suc 2 n); sum = sum };
      weight = omega (arith, high.weight, h.weight);
    }

-- ---- the lightest flips

pub lightest_small : (e c : ℕ → ℕ) (n s : ℕ) → lightest e c n s < 2 ^ n
unfolding lightest
lightest_small e c zero s = lit< tt
lightest_small e c (suc n) s = grind (arith, common_steps, pow-suc, lightest_small e c n s, lightest_small e c n (bit_xor s (e n)))

none_reached : (e c : ℕ → ℕ) (s : ℕ) → of_none s < 255 → Weighs e c 0 s 0 (of_none s)
unfolding sum_of weigh
none_reached e c s near = grind (arith, common_steps, lit<)

-- the first symbol by which way is lighter
first_reached : (e c : ℕ → ℕ) (n s a b f g : ℕ) (t : Bool) → t ≡ nat_lt (b + c n) a → (a < 255 → Weighs e c n s f a)
    → (b < 255 → Weighs e c n (bit_xor s (e n)) g b) → min a (b + c n) < 255
    → Weighs e c (suc n) s (elim t [ false ↦ f | true ↦ 2 ^ n + g ]) (min a (b + c n))
first_reached e c n s a b f g false is left right near =
    let le : a ≤ b + c n = search rules in
    subst (Weighs e c (suc n) s f) (sym (min-eq_left le)) (weighs_kept e c n s f a (left (omega (arith, near, min-eq_left le))))
first_reached e c n s a b f g true is left right near =
    let less : b + c n < a = search rules in
    let le : b + c n ≤ a = omega (arith, less) in
    subst (Weighs e c (suc n) s (2 ^ n + g)) (sym (min-eq_right le))
    (weighs_turned e c n s g b (right (omega (arith, near, min-eq_right le))))

pub lightest_reached : (e c : ℕ → ℕ) (n s : ℕ) → least e c n s < 255 → Weighs e c n s (lightest e c n s) (least e c n s)
unfolding least lightest
lightest_reached e c zero s near = none_reached e c s near
lightest_reached e c (suc n) s near =
    first_reached e c n s (least e c n s) (least e c n (bit_xor s (e n))) (lightest e c n s) (lightest e c n (bit_xor s (e n)))
    (is_flipped e c n s) refl (lightest_reached e c n s) (lightest_reached e c n (bit_xor s (e n))) near

-- ---- all others

others_by : (n w a b k flips x y lf lg : ℕ) (t : Bool)
    → (((x ≤ w) × (flips ≢ lf → y ≤ w)) ⊎ ((rest : ℕ) × (flips ≡ 2 ^ n + rest) × (a + k ≤ w) × (rest ≢ lg → b + k ≤ w)))
    → flips ≢ elim t [ false ↦ lf | true ↦ 2 ^ n + lg ]
    → elim t [ false ↦ min (a + k) y | true ↦ min x (b + k) ] ≤ w
others_by n w a b k flips x y lf lg t h other = grind (arith, common_steps, min-le_right, min-le_left)

pub others_weigh : (e c : ℕ → ℕ) (n s flips : ℕ) → Reach e n s flips → flips ≢ lightest e c n s → second e c n s ≤ weigh c n flips
unfolding second lightest
others_weigh e c zero s flips h other = absurd (other (omega (arith, h.small)))
others_weigh e c (suc n) s flips h other =
    let t : ℕ = bit_xor s (e n) in
    others_by n (weigh c (suc n) flips) (least e c n t) (second e c n t) (c n) flips (least e c n s) (second e c n s)
    (lightest e c n s) (lightest e c n t) (is_flipped e c n s) (elim (ways e c n s flips h) [
      | inl way ↦ inl (
        omega (arith, way.0.weight, least_below e c n s flips way.1),
        λ apart. omega (arith, way.0.weight, others_weigh e c n s flips way.1 apart),
      )
      | inr way ↦ inr (
        way.0,
        way.1.whole,
        omega (arith, way.1.weight, least_below e c n t way.0 way.2),
        λ apart. omega (arith, way.1.weight, others_weigh e c n t way.0 way.2 apart),
      )
    ]) other

-- ---- some others weigh so much

abbrev pub Other : (ℕ → ℕ) → (ℕ → ℕ) → ℕ → ℕ → ℕ → ℕ → Type 0
Other e c n s flips w = (any : ℕ) × Weighs e c n s any w × (any ≢ flips)

-- others by the first symbol
other_by : (e c : ℕ → ℕ) (n s a b x y f g : ℕ) (t : Bool) → f < 2 ^ n → g < 2 ^ n → (a < 255 → Weighs e c n s f a)
    → (b < 255 → Weighs e c n (bit_xor s (e n)) g b) → (x < 255 → Other e c n s f x) → (y < 255 → Other e c n (bit_xor s (e n)) g y)
    → elim t [ false ↦ min (b + c n) x | true ↦ min a (y + c n) ] < 255
    → Other e c (suc n) s (elim t [ false ↦ f | true ↦ 2 ^ n + g ]) (elim t [ false ↦ min (b + c n) x | true ↦ min a (y + c n) ])
other_by e c n s a b x y f g false f_small g_small left right more_left more_right near = elim (cases_lt (b + c n) x) [
  | inl less ↦
      let le : b + c n ≤ x = omega (arith, less) in
      let turn = weighs_turned e c n s g b (right (omega (arith, near, min-eq_left le))) in
      (2 ^ n + g, subst (Weighs e c (suc n) s (2 ^ n + g)) (sym (min-eq_left le)) turn, λ same. absurd (omega (arith, same, f_small)))
  | inr le ↦
      let more = more_left (omega (arith, near, min-eq_right le)) in
      (more.0, subst (Weighs e c (suc n) s more.0) (sym (min-eq_right le)) (weighs_kept e c n s more.0 x more.1), more.2)
]
other_by e c n s a b x y f g true f_small g_small left right more_left more_right near = elim (cases_lt (y + c n) a) [
  | inl less ↦
      let le : y + c n ≤ a = omega (arith, less) in
      let more = more_right (omega (arith, near, min-eq_right le)) in (
        2 ^ n + more.0,
        subst (Weighs e c (suc n) s (2 ^ n + more.0)) (sym (min-eq_right le)) (weighs_turned e c n s more.0 y more.1),
        λ same. more.2 (omega (arith, same)),
      )
  | inr le ↦
      let stay = weighs_kept e c n s f a (left (omega (arith, near, min-eq_left le))) in
      (f, subst (Weighs e c (suc n) s f) (sym (min-eq_left le)) stay, λ same. absurd (omega (arith, same, f_small)))
]

pub second_reached : (e c : ℕ → ℕ) (n s : ℕ) → second e c n s < 255 → Other e c n s (lightest e c n s) (second e c n s)
unfolding second lightest
second_reached e c zero s near = let same : 255 < 255 = near in absurd (omega (arith, same))
second_reached e c (suc n) s near =
    let t : ℕ = bit_xor s (e n) in
    other_by e c n s (least e c n s) (least e c n t) (second e c n s) (second e c n t) (lightest e c n s) (lightest e c n t)
    (is_flipped e c n s) (lightest_small e c n s) (lightest_small e c n t) (lightest_reached e c n s) (lightest_reached e c n t)
    (second_reached e c n s) (second_reached e c n t) near
