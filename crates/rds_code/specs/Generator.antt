-- The generator among the polynomials of its degree, and the standard's syndrome beside the remainder of a block (EN 50067:1998, 2.3 and
-- Annex B). Numbers represent polynomials modulo 2: bit i is the coefficient of x^i. Cited by the laws `generator_is_one_of_two` and
-- `syndromes_are_remainders`.
use Rattle.std.specs.Prelude.{◌≡◌, ◌≢◌, ◌⊎◌, ℕ, zero, suc, ◌*◌, ◌/◌, ◌%◌, ◌^◌, ◌<◌, ◌≤◌, List, [], ◌∷◌, length, bit_xor}
use Rattle.std.specs.Int.{bit_at}
use Rattle.rds_code.specs.{Remainder.generator, Remainder.rem, Bursts.IsBurst}

-- a polynomial of degree 10 whose lowest coefficient is 1: there are 512
pub record IsCandidate (p : ℕ) : Type 0 where
  pub not_less : 2 ^ 10 ≤ p
  pub not_more : p < 2 ^ 11
  pub odd : p % 2 ≡ 1

-- r times x, modulo p, for an r of ten bits
abbrev pub times_x : ℕ → ℕ → ℕ
times_x p r = bit_xor (2 * r) (bit_at r 9 * p)

-- r times x^t, modulo p
unfoldable pub times_power : ℕ → ℕ → ℕ → ℕ
times_power p zero r = r
times_power p (suc t) r = times_x p (times_power p t r)

-- the period of p is n: x^n is the first power of x after x^0 that is 1 modulo p
pub record HasPeriod (p n : ℕ) : Type 0 where
  pub later : 0 < n
  pub one : times_power p n 1 ≡ 1
  pub first : (t : ℕ) → 0 < t → t < n → times_power p t 1 ≢ 1

-- the remainder by p of the k lowest bits of w, the last bit added to x times the remainder of the others
unfoldable pub remainder_by : ℕ → ℕ → ℕ → ℕ
remainder_by p zero w = 0
remainder_by p (suc k) w = bit_xor (times_x p (remainder_by p k (w / 2))) (w % 2)

-- the remainders by p tell the bursts of up to five bits in a block apart
abbrev pub TellsApart : ℕ → Type 0
TellsApart p = (d e : ℕ) → IsBurst 5 d → IsBurst 5 e → remainder_by p 26 d ≡ remainder_by p 26 e → d ≡ e

-- the generator with its coefficients in reverse order
abbrev pub mirror : ℕ
mirror = 0x4ED

-- Of the 512 polynomials, exactly the generator and its mirror have period n and tell the bursts apart. For n = 341: the code was shortened
-- from 341 bits to 26, so Annex B multiplies by x^325 = x^(341 - 16).
pub record AreGeneratorAndMirror (n : ℕ) : Type 0 where
  pub period : HasPeriod generator n
  pub told : TellsApart generator
  pub mirror_period : HasPeriod mirror n
  pub mirror_told : TellsApart mirror
  pub no_other : (p : ℕ) → IsCandidate p → HasPeriod p n → TellsApart p → (p ≡ generator) ⊎ (p ≡ mirror)

-- the remainder by the generator is that of the block code
abbrev pub DividesAlike : Type 0
DividesAlike = (w : ℕ) → w < 2 ^ 26 → remainder_by generator 26 w ≡ rem w

-- ---- the standard's syndrome

-- the parity-check matrix of Annex B: a row of ten bits for each bit of a block, in the order of sending
abbrev pub parity_rows : List ℕ
parity_rows =
    0b1000000000 ∷ 0b0100000000 ∷ 0b0010000000 ∷ 0b0001000000
    ∷ 0b0000100000 ∷ 0b0000010000 ∷ 0b0000001000 ∷ 0b0000000100
    ∷ 0b0000000010 ∷ 0b0000000001 ∷ 0b1011011100 ∷ 0b0101101110
    ∷ 0b0010110111 ∷ 0b1010000111 ∷ 0b1110011111 ∷ 0b1100010011
    ∷ 0b1101010101 ∷ 0b1101110110 ∷ 0b0110111011 ∷ 0b1000000001
    ∷ 0b1111011100 ∷ 0b0111101110 ∷ 0b0011110111 ∷ 0b1010100111
    ∷ 0b1110001111 ∷ 0b1100011011
    ∷ []

-- the xor of the rows of those bits of w that are 1
unfoldable pub syndrome : List ℕ → ℕ → ℕ
syndrome [] w = 0
syndrome (row ∷ rows) w = bit_xor (bit_at w (length rows) * row) (syndrome rows w)

-- the standard's syndrome of a block, times x^16, is its remainder
abbrev pub SyndromesAreRemainders : Type 0
SyndromesAreRemainders = (w : ℕ) → w < 2 ^ 26 → times_power generator 16 (syndrome parity_rows w) ≡ rem w
