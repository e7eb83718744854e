use Rattle.rds_code.proofs.Names.{common_steps, arith, ◌≡◌, ◌≢◌, ℕ, ◌/◌, sym, None, bit_and, get_or, [], ◌∷◌, ne_eqb, offset_of}
use Rattle.rds_code.proofs.offset.offset_of.Goals as goal

candidate : ℕ → ℕ
candidate r = get_or (0xFFFF ∷ 0xFFFF ∷ 0x168 ∷ 0xFFFF ∷ 0x350 ∷ 0x1B4 ∷ 0x198 ∷ 0x0FC ∷ []) (bit_and (r / 4) 7) 0

no_word : (r : ℕ) → 0x0FC ≢ r → 0x198 ≢ r → 0x168 ≢ r → 0x350 ≢ r → 0x1B4 ≢ r → offset_of r ≡ None
no_word r a b c x d = simp (ne_eqb 0x0FC r a, ne_eqb 0x198 r b, ne_eqb 0x168 r c, ne_eqb 0x350 r x, ne_eqb 0x1B4 r d)

no_candidate : (r : ℕ) → candidate r ≢ r → offset_of r ≡ None
unfolding candidate
no_candidate r other = grind (arith, common_steps, candidate, no_word)

pub returns-then-candidate-remainder : goal.returns-then-candidate-remainder
unfolding candidate
returns-then-candidate-remainder c = sym (no_candidate c.args.remainder c.if-candidate-remainder.true)
