-- The table of block 3 holds what it says: checked entry by entry, by computation, and then told of readings.
use Rattle.rds_code.proofs.Names.{common_steps, ◌≡◌, ℕ, zero, suc, ◌+◌, ◌*◌, ◌/◌, ◌%◌, ◌<◌, ◌≤◌, ◌==◌, if◌then◌else◌, Bool, List, map, get_or, bit_xor, refl, sym, ap, subst, ◌∙◌, inl, inr, arith, range_with_len, ne_eqb, get_or-map-range_with_len, C, Cx, Either, IsOutcome, wanted_at, word, outcome_number, reading, rem, eqb_tells}
use Rattle.rds_code.{specs.declared.thirds.TheConstants.THIRDS, proofs.OutcomeLemmas.Damage, proofs.OutcomeLemmas.damaged, proofs.OutcomeLemmas.third_as_c, proofs.OutcomeLemmas.third_as_cx, proofs.OutcomeLemmas.third_as_either, proofs.OutcomeLemmas.valid_third}

-- of a block that is not valid, by the wanted version and the outcomes with C and with C'
by_version : ℕ → ℕ → ℕ → ℕ
by_version zero a b = a
by_version (suc zero) a b = b
by_version (suc (suc v)) a b = if a == 2 then b else if b == 2 then a else 2

pub third_of : ℕ → ℕ → ℕ → ℕ
third_of v a b = if a == 1 then 1 else if b == 1 then 1 else by_version v a b

of_triple : ℕ → ℕ
of_triple i = third_of (i / 256) (i / 16 % 16) (i % 16)

thirds_are : THIRDS ≡ map of_triple (range_with_len 0 768)
unfolding of_triple third_of by_version
thirds_are = refl

pub entry : (v x y a b : ℕ) → x ≡ a → y ≡ b → v ≤ 2 → a ≤ 13 → b ≤ 13 → get_or THIRDS (256 * v + 16 * x + y) 0 ≡ third_of v a b
unfolding of_triple
entry v x y a b as_a as_b is_v is_a is_b =
    let i : ℕ = 256 * v + 16 * x + y in
    let within : i < 768 = omega (arith, is_v, is_a, is_b, as_a, as_b) in
    ap (λ (t : List ℕ). get_or t i 0) thirds_are
    ∙ get_or-map-range_with_len of_triple 0 768 i i 0 within (omega arith)
    ∙ ap (λ (n : ℕ). third_of n (i / 16 % 16) (i % 16)) (omega (arith, is_a, is_b, as_a, as_b))
    ∙ ap (λ (n : ℕ). third_of v n (i % 16)) (omega (arith, is_a, is_b, as_a, as_b))
    ∙ ap (third_of v a) (omega (arith, is_b, as_b))

other : (a k p q : ℕ) → (a ≡ k → ⊥) → (if a == k then p else q) ≡ q
other a k p q differ = ap (λ (t : Bool). if t then p else q) (ne_eqb a k differ)

if_most : (t : Bool) (p q : ℕ) → p ≤ 13 → q ≤ 13 → (if t then p else q) ≤ 13
if_most t p q is_p is_q = grind (arith, common_steps)

most : (v a b : ℕ) → a ≤ 13 → b ≤ 13 → third_of v a b ≤ 13
unfolding third_of by_version
most v a b is_a is_b = grind (arith, common_steps, if_most, by_version, third_of)

pub entry_most : (v x y a b : ℕ) → x ≡ a → y ≡ b → v ≤ 2 → a ≤ 13 → b ≤ 13 → get_or THIRDS (256 * v + 16 * x + y) 0 ≤ 13
entry_most v x y a b as_a as_b is_v is_a is_b = subst (λ (n : ℕ). n ≤ 13) (sym (entry v x y a b as_a as_b is_v is_a is_b)) (most v a b is_a is_b)

module _ (w limit : ℕ) (few : limit ≤ 5) where
  abbrev Is_A : ℕ → Type 0
  Is_A = Damage limit (bit_xor (rem w) (word C))

  abbrev Is_B : ℕ → Type 0
  Is_B = Damage limit (bit_xor (rem w) (word Cx))

  if_either : (a b : ℕ) → Is_A a → Is_B b → (if a == 2 then b else if b == 2 then a else 2) ≡ outcome_number (reading w 3 Either limit)
  if_either a b of_a of_b =
      let is = third_as_either w limit few a b of_a of_b in
      elim (eqb_tells a 2) [
        | inl h ↦ ap (λ (t : Bool). if t then b else if b == 2 then a else 2) h.0 ∙ is.first_lost h.1
        | inr h ↦ other a 2 b (if b == 2 then a else 2) h.1 ∙ elim (eqb_tells b 2) [
          | inl g ↦ ap (λ (t : Bool). if t then a else 2) g.0 ∙ is.second_lost h.1 g.1
          | inr g ↦ other b 2 a 2 g.1 ∙ is.both h.1 g.1
        ]
      ]

  of_damaged : (v a b : ℕ) → Is_A a → Is_B b → by_version v a b ≡ outcome_number (reading w 3 (wanted_at v) limit)
  unfolding by_version
  of_damaged zero a b of_a of_b = third_as_c w limit few a b of_a of_b
  of_damaged (suc zero) a b of_a of_b = third_as_cx w limit few a b of_a of_b
  of_damaged (suc (suc v)) a b of_a of_b = if_either a b of_a of_b

  pub of_outcomes : (v a b : ℕ) → IsOutcome limit (bit_xor (rem w) (word C)) a → IsOutcome limit (bit_xor (rem w) (word Cx)) b → third_of v a b ≡ outcome_number (reading w 3 (wanted_at v) limit)
  unfolding third_of
  of_outcomes v a b of_a of_b =
      let rest : ℕ = if b == 1 then 1 else by_version v a b in
      elim (eqb_tells a 1) [
        | inl h ↦ ap (λ (t : Bool). if t then 1 else rest) h.0 ∙ valid_third w limit few (wanted_at v) C a refl of_a h.1
        | inr h ↦ other a 1 1 rest h.1 ∙ elim (eqb_tells b 1) [
          | inl g ↦ ap (λ (t : Bool). if t then 1 else by_version v a b) g.0 ∙ valid_third w limit few (wanted_at v) Cx b refl of_b g.1
          | inr g ↦ other b 1 1 (by_version v a b) g.1 ∙ of_damaged v a b (damaged limit (bit_xor (rem w) (word C)) a few of_a h.1) (damaged limit (bit_xor (rem w) (word Cx)) b few of_b g.1)
        ]
      ]
