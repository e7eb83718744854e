use Rattle.rds_code.proofs.Names.{◌≡◌, ℕ, ◌≤◌, ◌∙◌, bit_xor, [], ◌∷◌, refl, sym, ap, subst, arith, Offset, A, B, C, Cx, D, Wanted, IsOutcome, outcome_number, number, word, reading, wanted_offsets, rem}
use Rattle.rds_code.proofs.{OutcomeLemmas.by_single, ReadingLemmas.only_A, ReadingLemmas.only_B, ReadingLemmas.only_D, ReadingLemmas.wanted_1, ReadingLemmas.wanted_2, ReadingLemmas.wanted_4}
use Rattle.rds_code.proofs.outcomes.Outcomes.of_block.Goals as goal

-- the outcome with the offset of a window whose remainder is r
with_offset : (limit w r k : ℕ) (o : Offset) → r ≡ rem w → IsOutcome limit (bit_xor r (word o)) k → IsOutcome limit (bit_xor (rem w) (word o)) k
with_offset limit w r k o is outcome = subst (λ (n : ℕ). IsOutcome limit (bit_xor n (word o)) k) is outcome

-- where the number is x, of which there is one offset
one_offset : (limit w r k x y : ℕ) (wanted : Wanted) (o : Offset) → limit ≤ 5 → y ≡ x → wanted_offsets x wanted ≡ o ∷ [] → number o ≡ x → ((p : Offset) → number p ≡ x → p ≡ o)
    → r ≡ rem w → IsOutcome limit (bit_xor r (word o)) k → k ≡ outcome_number (reading w y wanted limit)
one_offset limit w r k x y wanted o few here list own alone is outcome =
    by_single w limit few x wanted o k list own alone (with_offset limit w r k o is outcome) ∙ ap (λ (n : ℕ). outcome_number (reading w n wanted limit)) (sym here)

pub returns-in-1-clause-value : goal.returns-in-1-clause-value
returns-in-1-clause-value c =
    one_offset c.args.self.now c.args.w c.rem26-remainder.result c.with.result 1 c.args.number c.args.wanted A
    c.with.ensures.few (sym c.get.ensures.value ∙ c.in-1.is) (wanted_1 c.args.wanted).0 refl only_A c.rem26-remainder.ensures.value c.with.ensures.outcome

pub returns-in-2-clause-value : goal.returns-in-2-clause-value
returns-in-2-clause-value c =
    one_offset c.args.self.now c.args.w c.rem26-remainder.result c.with-in-2.result 2 c.args.number c.args.wanted B
    c.with-in-2.ensures.few (sym c.get.ensures.value ∙ c.in-2.is) (wanted_2 c.args.wanted).0 refl only_B c.rem26-remainder.ensures.value c.with-in-2.ensures.outcome

pub returns-in-3-clause-value : goal.returns-in-3-clause-value
returns-in-3-clause-value c =
    let r : ℕ = c.rem26-remainder.result in
    let limit : ℕ = c.args.self.now in
    c.third.ensures.value c.args.w limit c.with-version_a.ensures.few
    (with_offset limit c.args.w r c.with-version_a.result C c.rem26-remainder.ensures.value c.with-version_a.ensures.outcome)
    (with_offset limit c.args.w r c.with-version_b.result Cx c.rem26-remainder.ensures.value c.with-version_b.ensures.outcome)
    ∙ ap (λ (n : ℕ). outcome_number (reading c.args.w n c.args.wanted limit)) (sym (sym c.get.ensures.value ∙ c.in-3.is))

pub returns-in_default-clause-value : goal.returns-in_default-clause-value
returns-in_default-clause-value c =
    let four : c.args.number ≡ 4 = omega (arith, c.get.ensures, c.in_default) in
    one_offset c.args.self.now c.args.w c.rem26-remainder.result c.with-in_default.result 4 c.args.number c.args.wanted D
    c.with-in_default.ensures.few four (wanted_4 c.args.wanted).0 refl only_D c.rem26-remainder.ensures.value c.with-in_default.ensures.outcome
