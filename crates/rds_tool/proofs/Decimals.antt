-- Decimal numbers, some digits at a time.
use Rattle.rds_tool.proofs.Names.{◌*◌, ◌+◌, ◌++◌, ◌/◌, ◌%◌, ◌∙◌, ◌∷◌, ◌≡◌, ◌<◌, ◌≤◌, ◌^◌, List, [], ap, ap₂, append-nil, append_assoc, arith, length, mul_assoc, refl, suc, sym, take, zero, ℕ, decimal, decimal_digit, decimal_step, common_steps, take-append-le, take_all}
use Rattle.rds_tool.specs.Inside.Digits.{last_digits}

digits_length : (k n : ℕ) → length (last_digits k n) ≡ k
digits_length zero n = refl
digits_length (suc k) n = grind (arith, common_steps, digits_length k (n / 10))

pub one_digit : (n : ℕ) → n < 10 → last_digits 1 n ≡ decimal n
one_digit n few = grind (arith, common_steps, decimal_digit, decimal)

-- as many digits as a number has are the number
pub spelled : (k n : ℕ) → 10 ^ k ≤ n → n < 10 ^ suc k → n < 2 ^ 64 → last_digits (suc k) n ≡ decimal n
spelled zero n some few small = one_digit n (omega arith)
spelled (suc k) n some few small = grind (arith, common_steps, decimal_step, decimal, spelled k (n / 10) (omega arith) (omega arith) (omega arith))

pow_more : (n j : ℕ) → n * 10 ^ suc j ≡ n * 10 ^ j * 10
pow_more n j = grind (arith, common_steps, mul_assoc)

-- zeros after a number leave its digits first
pub shifted : (k j n : ℕ) → take k (last_digits (k + j) (n * 10 ^ j)) ≡ last_digits k n
shifted k zero n = grind (arith, common_steps, take_all, digits_length)
shifted k (suc j) n =
    let m = n * 10 ^ suc j in
    let ten : m ≡ n * 10 ^ j * 10 = pow_more n j in
    let less : m / 10 ≡ n * 10 ^ j = omega (arith, ten) in
    let more : k + suc j ≡ suc (k + j) = omega arith in
    rw more (take-append-le k (last_digits (k + j) (m / 10)) ((48 + m % 10) ∷ []) (omega (arith, digits_length (k + j) (m / 10))) ∙ ap (λ r. take k (last_digits (k + j) r)) less ∙ shifted k j n)

-- the digits of a number, and then zeros up to eight digits
pub aligned : (k j n : ℕ) → 10 ^ k ≤ n → n < 10 ^ suc k → n < 2 ^ 64 → take (suc k) (last_digits (suc k + j) (n * 10 ^ j)) ≡ decimal n
aligned k j n some few small = shifted (suc k) j n ∙ spelled k n some few small

-- the same of one digit
pub aligned_one : (n : ℕ) → n < 10 → take 1 (last_digits 8 (n * 10000000)) ≡ decimal n
aligned_one n few = grind (arith, common_steps, decimal_digit, decimal)

-- the last eight digits are those of the last eight
last_eight : (n : ℕ) → last_digits 8 (n % 100000000) ≡ last_digits 8 n
last_eight n = grind (arith, common_steps)

one_more : (n : ℕ) (rest : List ℕ) → 10 ≤ n → n < 2 ^ 64 → decimal n ++ rest ≡ decimal (n / 10) ++ (48 + n % 10) ∷ rest
one_more n rest h small = ap (λ t. t ++ rest) (decimal_step n h small) ∙ append_assoc (decimal (n / 10)) ((48 + n % 10) ∷ []) rest

-- a number of nine digits or more is the one before its last eight, and then these
splits : (n : ℕ) → 100000000 ≤ n → n < 2 ^ 64 → decimal n ≡ decimal (n / 100000000) ++ last_digits 8 (n % 100000000)
splits n h small =
    let front : n / 10 / 10 / 10 / 10 / 10 / 10 / 10 / 10 ≡ n / 100000000 = omega arith in
    sym (append-nil (decimal n))
    ∙ one_more n _ (omega arith) small
    ∙ one_more (n / 10) _ (omega arith) (omega arith)
    ∙ one_more (n / 10 / 10) _ (omega arith) (omega arith)
    ∙ one_more (n / 10 / 10 / 10) _ (omega arith) (omega arith)
    ∙ one_more (n / 10 / 10 / 10 / 10) _ (omega arith) (omega arith)
    ∙ one_more (n / 10 / 10 / 10 / 10 / 10) _ (omega arith) (omega arith)
    ∙ one_more (n / 10 / 10 / 10 / 10 / 10 / 10) _ (omega arith) (omega arith)
    ∙ one_more (n / 10 / 10 / 10 / 10 / 10 / 10 / 10) _ (omega arith) (omega arith)
    ∙ ap₂ (λ m ds. decimal m ++ ds) front (sym (last_eight n))

-- a text with the front of a number, and then its last eight digits
pub in_two_parts : (old mid new digits : List ℕ) (n : ℕ) → 100000000 ≤ n → n < 2 ^ 64 → mid ≡ old ++ decimal (n / 100000000)
    → digits ≡ last_digits 8 (n % 100000000) → new ≡ mid ++ take 8 digits → new ≡ old ++ decimal n
in_two_parts old mid new digits n long small front low last = grind (arith, common_steps, append_assoc, splits, decimal)
