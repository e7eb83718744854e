-- The tables of remainders of bytes hold what they say: checked entry by entry, by computation.
use Rattle.rds_code.proofs.Names.{◌≡◌, ℕ, ◌*◌, ◌^◌, ◌<◌, List, map, refl, ap, ◌∙◌, get_or, arith, range_with_len, get_or-map-range_with_len, rem, MIDDLE, HIGH}

-- the remainders of all bytes, shifted up by k places
remainders_at : ℕ → List ℕ
remainders_at k = map (λ byte. rem (byte * 2 ^ k)) (range_with_len 0 256)

middle_is : MIDDLE ≡ remainders_at 10
unfolding rem remainders_at
middle_is = refl

high_is : HIGH ≡ remainders_at 18
unfolding rem remainders_at
high_is = refl

entry : (k byte : ℕ) → byte < 256 → get_or (remainders_at k) byte 0 ≡ rem (byte * 2 ^ k)
unfolding remainders_at
entry k byte h = get_or-map-range_with_len (λ n. rem (n * 2 ^ k)) 0 256 byte byte 0 h (omega arith)

pub middle : (byte : ℕ) → byte < 256 → get_or MIDDLE byte 0 ≡ rem (byte * 2 ^ 10)
middle byte h = ap (λ (t : List ℕ). get_or t byte 0) middle_is ∙ entry 10 byte h

pub high : (byte : ℕ) → byte < 256 → get_or HIGH byte 0 ≡ rem (byte * 2 ^ 18)
high byte h = ap (λ (t : List ℕ). get_or t byte 0) high_is ∙ entry 18 byte h
