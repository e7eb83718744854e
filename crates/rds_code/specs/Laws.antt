-- Laws of remainders, bursts, readings and blocks (EN 50067:1998, 2.3 and Annex B; readings are this project's rule).
-- Each is a clause of a function in `laws`; these functions do nothing.
use Rattle.std.specs.Prelude.{◌≡◌, ◌≢◌, ℕ, ◌<◌, ◌≤◌, ◌^◌, bit_xor, ◌↔◌, Contains}
use Rattle.rds_code.specs.{declared.offset.Offset.Offset, declared.reading.Wanted.Wanted, declared.reading.Reading.Reading, Remainder.IsRemainder, Remainder.rem, Bursts.IsBurst, Bursts.bursts, Reading.IsReading, Reading.reading, Encoding.IsBlockOf, Encoding.encoded}

-- each block has a remainder, the one that is computed
abbrev pub HasRemainder : Type 0
HasRemainder = (w : ℕ) → w < 2 ^ 26 → IsRemainder w (rem w)

-- no block has two remainders
abbrev pub HasOneRemainder : Type 0
HasOneRemainder = (w r s : ℕ) → IsRemainder w r → IsRemainder w s → r ≡ s

-- the remainder of a sum is the sum of the remainders
abbrev pub IsLinear : Type 0
IsLinear = (u v : ℕ) → rem (bit_xor u v) ≡ bit_xor (rem u) (rem v)

-- the list of bursts of a limit holds the bursts of that limit, and nothing else
abbrev pub ListsBursts : Type 0
ListsBursts = (limit e : ℕ) → limit ≤ 5 → IsBurst limit e ↔ Contains (bursts limit) e

-- two bursts of up to five bits with the same remainder are equal
abbrev pub TellsBursts : Type 0
TellsBursts = (d e : ℕ) → IsBurst 5 d → IsBurst 5 e → rem d ≡ rem e → d ≡ e

-- no burst of up to five bits has remainder 0
abbrev pub BurstsHaveNonzeroRemainders : Type 0
BurstsHaveNonzeroRemainders = (e : ℕ) → IsBurst 5 e → rem e ≢ 0

-- the reading that is computed is the one that the rule gives, and the rule gives no other
abbrev pub ReadsByRule : Type 0
ReadsByRule = (w x : ℕ) (wanted : Wanted) (limit : ℕ) (r : Reading) → 1 ≤ x → x ≤ 4 → limit ≤ 5
    → IsReading w x wanted limit r ↔ (r ≡ reading w x wanted limit)

-- exactly one block carries an information word with an offset
abbrev pub HasOneBlock : Type 0
HasOneBlock = (w info : ℕ) (o : Offset) → info < 2 ^ 16 → IsBlockOf w info o ↔ (w ≡ encoded info o)
