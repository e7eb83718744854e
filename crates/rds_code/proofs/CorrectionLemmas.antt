-- A damaged block is corrected: the burst that damaged it is the only one that fits.
use Rattle.rds_code.proofs.Names.{common_steps, ◌≡◌, ◌≢◌, ℕ, ◌≤◌, List, [], ◌∷◌, refl, sym, ap, ◌∙◌, arith, inl, inr, ◌⊎◌, bit_xor, Option, Some, None, find, eqb, subst, lit<, lit≤, xor_assoc, xor_self, xor_zero_r, count_leading_zeros, count_trailing_zeros, eqb-true, Offset, A, B, C, Cx, D, Wanted, Corrected, rem, word, number, all_offsets, offset_of, IsBurst, IsValid, wanted_offsets, reading, IsBlockOf, alone, other_third_offset, version_burst, ReadsAsSent, CorrectsBurst, CorrectsThird, TakesOtherVersion}
use Rattle.rds_code.proofs.{ReadingLemmas.one_fits, ReadingLemmas.corrections_one, ReadingLemmas.reads_valid, ReadingLemmas.reads_corrected, ReadingLemmas.only_A, ReadingLemmas.only_B, ReadingLemmas.only_D, ReadingLemmas.third, ReadingLemmas.wanted_1, ReadingLemmas.wanted_2, ReadingLemmas.wanted_4, RemainderLemmas.rem-xor, RemainderLemmas.twice, BurstLemmas.burst_is_one, BurstLemmas.rem_burst, BurstLemmas.longer}

-- damage done twice is undone
pub undone : (w e : ℕ) → bit_xor (bit_xor w e) e ≡ w
undone w e = xor_assoc w e e ∙ ap (bit_xor w) (xor_self e) ∙ xor_zero_r w

found_word : (os : List Offset) (r : ℕ) (p : Offset) → find (λ o. eqb (word o) r) os ≡ Some p → word p ≡ r
found_word [] r p e = let no : ◌≡◌ {A = Option Offset} None (Some p) = e in absurd (cc no)
found_word (o ∷ os) r p e = grind (arith, common_steps, find, eqb-true, found_word os r p)

pub valid_word : (r : ℕ) (p : Offset) → offset_of r ≡ Some p → word p ≡ r
valid_word r p e = found_word all_offsets r p e

pub word_offset : (o : Offset) → offset_of (word o) ≡ Some o
word_offset o = grind (arith, common_steps)

-- a block as it was sent
pub reads_as_sent : ReadsAsSent
reads_as_sent w info o wanted limit h = grind (arith, common_steps, reads_valid, word_offset)

-- the remainder after damage
pub damaged : (w info e : ℕ) (o : Offset) → IsBlockOf w info o → rem (bit_xor w e) ≡ bit_xor (word o) (rem e)
damaged w info e o h = rem-xor w e ∙ ap (λ (n : ℕ). bit_xor n (rem e)) h.remainder

-- a damaged block that has an offset p after all: the burst has the sum of the words as its remainder
pub became : (w info e x : ℕ) (o p : Offset) → IsBlockOf w info o → IsValid (bit_xor w e) x p → rem e ≡ bit_xor (word o) (word p)
became w info e x o p h valid =
    sym (twice (word o) (rem e)) ∙ ap (bit_xor (word o)) (sym (damaged w info e o h) ∙ sym (valid_word (rem (bit_xor w e)) p valid.offset))

not_itself : (w info e x : ℕ) (o : Offset) → IsBlockOf w info o → IsBurst 5 e → IsValid (bit_xor w e) x o → ⊥
not_itself w info e x o h burst valid = rem_burst e burst (became w info e x o o h valid ∙ xor_self (word o))

-- if only one offset is tried and the damaged block is not valid, the burst is found
found_again : (w info x : ℕ) (o : Offset) (wanted : Wanted) (limit e : ℕ) → IsBlockOf w info o → limit ≤ 5 → IsBurst limit e → wanted_offsets x wanted ≡ o ∷ []
    → ((p : Offset) → IsValid (bit_xor w e) x p → ⊥) → reading (bit_xor w e) x wanted limit ≡ Corrected o info e
found_again w info x o wanted limit e h few burst list not_valid = grind (arith, common_steps, undone, one_fits, reads_corrected, corrections_one)

pub corrects_burst : CorrectsBurst
corrects_burst w info A wanted limit e h not_third few burst =
    found_again w info 1 A wanted limit e h few burst (wanted_1 wanted).0 (λ p valid. not_itself w info e 1 A h (longer limit e few burst) (subst (IsValid (bit_xor w e) 1) (only_A p valid.own) valid))
corrects_burst w info B wanted limit e h not_third few burst =
    found_again w info 2 B wanted limit e h few burst (wanted_2 wanted).0 (λ p valid. not_itself w info e 2 B h (longer limit e few burst) (subst (IsValid (bit_xor w e) 2) (only_B p valid.own) valid))
corrects_burst w info D wanted limit e h not_third few burst =
    found_again w info 4 D wanted limit e h few burst (wanted_4 wanted).0 (λ p valid. not_itself w info e 4 D h (longer limit e few burst) (subst (IsValid (bit_xor w e) 4) (only_D p valid.own) valid))
corrects_burst w info C wanted limit e h not_third few burst = absurd (not_third refl)
corrects_burst w info Cx wanted limit e h not_third few burst = absurd (not_third refl)

version_is_burst : IsBurst 5 version_burst
unfolding count_leading_zeros count_trailing_zeros
version_is_burst = record { is_block = lit< tt; not_zero = lit< tt; short = lit≤ tt }

version_remainder : rem version_burst ≡ bit_xor (word C) (word Cx)
unfolding rem
version_remainder = refl

version_remainder_back : rem version_burst ≡ bit_xor (word Cx) (word C)
unfolding rem
version_remainder_back = refl

-- the burst that takes block 3 over to the other version
takes_over : (e : ℕ) (o : Offset) → number o ≡ 3 → IsBurst 5 e → rem e ≡ bit_xor (word o) (word (other_third_offset o)) → e ≡ version_burst
takes_over e o third burst same = grind (arith, common_steps, burst_is_one, version_is_burst, version_remainder, version_remainder_back)

pub taken_over : (o : Offset) → number o ≡ 3 → rem version_burst ≡ bit_xor (word o) (word (other_third_offset o))
taken_over o third = grind (arith, common_steps, version_remainder, version_remainder_back)

pub other_number : (o : Offset) → number (other_third_offset o) ≡ 3
other_number o = grind (arith, common_steps)

pub takes_other_version : TakesOtherVersion
takes_other_version w info o e h own burst = (
  λ valid. takes_over e o own burst (became w info e 3 o (other_third_offset o) h valid),
  λ same.
      let left : rem (bit_xor w e) ≡ word (other_third_offset o) =
      damaged w info e o h ∙ ap (λ (n : ℕ). bit_xor (word o) (rem n)) same ∙ ap (bit_xor (word o)) (taken_over o own) ∙ twice (word o) (word (other_third_offset o)) in
      record { offset = ap offset_of left ∙ word_offset (other_third_offset o); own = other_number o },
)

-- a valid block 3 has its own offset or the other
pub own_or_other : (o p : Offset) → number o ≡ 3 → number p ≡ 3 → (p ≡ o) ⊎ (p ≡ other_third_offset o)
own_or_other o p ho hp = grind (arith, common_steps, third)

third_not_valid : (w info : ℕ) (o : Offset) (e : ℕ) → IsBlockOf w info o → number o ≡ 3 → IsBurst 5 e → e ≢ version_burst → (p : Offset) → IsValid (bit_xor w e) 3 p → ⊥
third_not_valid w info o e h own burst apart p valid = elim (own_or_other o p own valid.own) [
  | inl same ↦ not_itself w info e 3 o h burst (subst (IsValid (bit_xor w e) 3) same valid)
  | inr other ↦ apart (takes_over e o own burst (became w info e 3 o (other_third_offset o) h (subst (IsValid (bit_xor w e) 3) other valid)))
]

pub alone_wanted : (o : Offset) → number o ≡ 3 → wanted_offsets 3 (alone o) ≡ o ∷ []
alone_wanted o h = grind (arith, common_steps)

pub corrects_third : CorrectsThird
corrects_third w info o limit e h own few burst apart =
    found_again w info 3 o (alone o) limit e h few burst (alone_wanted o own) (third_not_valid w info o e h own (longer limit e few burst) apart)
