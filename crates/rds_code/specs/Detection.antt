-- The errors that the code detects, and the words that are miscorrected (EN 50067:1998, 2.3 and Annex B). Blocks
-- and offset words are those of 2.1, 2.3 and Annex A. The bursts that are corrected are this project's rule. Cited by
-- the laws `damage_is_detected`, `corrected_words_are_few` and `miscorrections_are_counted`.
use Rattle.std.specs.Prelude.{◌≡◌, ◌≢◌, ℕ, zero, suc, ◌+◌, ◌-◌, ◌<◌, ◌≤◌, ◌^◌, List, [], ◌∷◌, ◌++◌, map, filter, length, slice_index, slice_index_or, bit_xor, ◌↔◌, Contains, Bool, false, not, ◌==◌, ◌&&◌}
use Rattle.std.specs.{List.AllPairs, Int.Count.ones}
use Rattle.rds_code.specs.{declared.offset.Offset.Offset, declared.reading.Wanted.Wanted, declared.reading.Wanted.TheVariants.Either, declared.reading.Reading.Reading, declared.reading.Reading.TheVariants.Corrected, Remainder.rem, Offsets.word, Offsets.number, Bursts.IsBurst, Bursts.bursts, Reading.information, Reading.IsValid, Reading.reading, Encoding.IsBlockOf, Correction.alone}

-- Up to n bit errors are detected: the damaged block matches no offset word of its own block number (2.3: single and double bit errors).
abbrev pub DetectsBitErrors : ℕ → Type 0
DetectsBitErrors n = (w info : ℕ) (o p : Offset) (e : ℕ) → IsBlockOf w info o → e < 2 ^ 26 → 1 ≤ ones e
    → ones e ≤ n
    → IsValid (bit_xor w e) (number o) p → ⊥

-- A burst of up to n bits is detected: the damaged block does not match its own offset word (2.3: bursts that span up to 10 bits).
abbrev pub DetectsErrorBursts : ℕ → Type 0
DetectsErrorBursts n = (w info : ℕ) (o : Offset) (e : ℕ) → IsBlockOf w info o → IsBurst n e
    → IsValid (bit_xor w e) (number o) o → ⊥

-- ---- noise: the share of all 26-bit words that is corrected (this project's rule)

-- For each 16-bit information word and each 10-bit remainder, one 26-bit word has both. So 2^16 words have each
-- remainder.
abbrev pub HasOneWordPerRemainder : Type 0
HasOneWordPerRemainder = (info r : ℕ) → info < 2 ^ 16 → r < 2 ^ 10
    → (w : ℕ) × (w < 2 ^ 26) × (information w ≡ info) × (rem w ≡ r)
    × ((v : ℕ) → information v ≡ info → rem v ≡ r → v ≡ w)

-- The remainders of the words that a burst within the limit turns into a block with the offset.
abbrev pub remainders_near : Offset → ℕ → List ℕ
remainders_near o limit = map (λ e. bit_xor (word o) (rem e)) (bursts limit)

-- How many bursts there are, by limit from 0 to 5.
abbrev pub burst_counts : List ℕ
burst_counts = 0 ∷ 26 ∷ 51 ∷ 99 ∷ 191 ∷ 367 ∷ []

-- If one offset is wanted, a word is corrected exactly if it is not valid and its remainder is near the offset word.
-- As many of the 1,024 remainders are near it as `burst_counts` says. For block 3 and limit 5, one of them is valid:
-- the offset word of the other version.
pub record CountsCorrected (o : Offset) (limit : ℕ) : Type 0 where
  pub exactly : (w : ℕ) → ((info : ℕ) × (e : ℕ) × (reading w (number o) (alone o) limit ≡ Corrected o info e))
      ↔ (Contains (remainders_near o limit) (rem w) × ((p : Offset) → IsValid w (number o) p → ⊥))
  pub distinct : AllPairs (λ (r s : ℕ). r ≢ s) (remainders_near o limit)
  pub many : length (remainders_near o limit) ≡ slice_index burst_counts limit

abbrev pub CountsAllCorrected : Type 0
CountsAllCorrected = (o : Offset) (limit : ℕ) → limit ≤ 5 → CountsCorrected o limit

-- ---- miscorrection: blocks with two, three and four bit errors (this project's rule)

-- The error masks of n bit errors among the k lowest bits of a block: without an error in the highest of these bits, then with one.
abbrev pub error_masks : ℕ → ℕ → List ℕ
error_masks zero k = 0 ∷ []
error_masks (suc n) zero = []
error_masks (suc n) (suc k) = error_masks (suc n) k ++ map (λ e. 2 ^ k + e) (error_masks n k)

-- These are the words below 2^k with n ones, each once.
pub record ListsErrorMasks (n k : ℕ) : Type 0 where
  pub exactly : (e : ℕ) → Contains (error_masks n k) e ↔ (e < 2 ^ k) × (ones e ≡ n)
  pub distinct : AllPairs (λ (d e : ℕ). d ≢ e) (error_masks n k)

abbrev pub ListsAllErrorMasks : Type 0
ListsAllErrorMasks = (n k : ℕ) → ListsErrorMasks n k

-- Whether a reading is corrected to another block than was sent: to another information word, or one with another offset.
abbrev pub is_miscorrection : Offset → ℕ → Reading → Bool
is_miscorrection o info (Corrected p other e) = not (word p == word o && other == info)
is_miscorrection o info r = false

-- How many error masks of n bit errors make of the block w one that is miscorrected.
abbrev pub miscorrections : ℕ → ℕ → Offset → Wanted → ℕ → ℕ → ℕ
miscorrections w info o wanted limit n =
    length (filter (λ e. is_miscorrection o info (reading (bit_xor w e) (number o) wanted limit))
    (error_masks n 26))

-- Blocks 1, 2 and 4: a row for 2, 3 and 4 bit errors, of 325, 2,600 and 14,950 masks; in it the limits from 0 to 5.
abbrev pub miscorrected : List (List ℕ)
miscorrected = (0 ∷ 21 ∷ 21 ∷ 21 ∷ 21 ∷ 43 ∷ []) ∷ (0 ∷ 12 ∷ 98 ∷ 206 ∷ 369 ∷ 738 ∷ [])
    ∷ (0 ∷ 386 ∷ 715 ∷ 1410 ∷ 2731 ∷ 5269 ∷ []) ∷ []

-- Block 3 if only its own offset is wanted: some masks make of it a valid block of the other version, which is not corrected.
abbrev pub miscorrected_third : List (List ℕ)
miscorrected_third = (0 ∷ 21 ∷ 21 ∷ 21 ∷ 21 ∷ 43 ∷ []) ∷ (0 ∷ 12 ∷ 98 ∷ 206 ∷ 369 ∷ 737 ∷ [])
    ∷ (0 ∷ 386 ∷ 715 ∷ 1410 ∷ 2731 ∷ 5253 ∷ []) ∷ []

-- Block 3 if C and C' are wanted.
abbrev pub miscorrected_either : List (List ℕ)
miscorrected_either = (0 ∷ 27 ∷ 32 ∷ 40 ∷ 60 ∷ 91 ∷ []) ∷ (0 ∷ 76 ∷ 212 ∷ 402 ∷ 657 ∷ 1075 ∷ [])
    ∷ (0 ∷ 762 ∷ 1406 ∷ 2592 ∷ 4159 ∷ 6778 ∷ []) ∷ []

-- The tables count the masks that miscorrect a block. The information word does not matter; the block number and the
-- wanted offsets do.
pub record CountsMiscorrections (w info : ℕ) (o : Offset) (limit n : ℕ) : Type 0 where
  pub others : (wanted : Wanted) → number o ≢ 3
      → miscorrections w info o wanted limit n ≡ slice_index (slice_index_or miscorrected (n - 2) []) limit
  pub third : number o ≡ 3 → miscorrections w info o (alone o) limit n
      ≡ slice_index (slice_index_or miscorrected_third (n - 2) []) limit
  pub either : number o ≡ 3 → miscorrections w info o Either limit n
      ≡ slice_index (slice_index_or miscorrected_either (n - 2) []) limit

abbrev pub CountsAllMiscorrections : Type 0
CountsAllMiscorrections = (w info : ℕ) (o : Offset) (limit n : ℕ) → IsBlockOf w info o → limit ≤ 5 → 2 ≤ n
    → n ≤ 4 → CountsMiscorrections w info o limit n
