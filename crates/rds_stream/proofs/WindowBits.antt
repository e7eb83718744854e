-- The bits of a window, where the bits of the recording near it are known to be digits.
use Rattle.std.proofs.Common.{pow_pos}
use Rattle.rds_stream.proofs.Names.{common_steps, ◌≡◌, ℕ, zero, suc, ◌+◌, ◌-◌, ◌^◌, ◌<◌, ◌≤◌, sym, subst, arith, List, length, get_or, bit_at, pow-suc, bit_at_lowest, bit_at-suc, window}
use Rattle.rds_stream.proofs.Places.{number, window_is}

number_lt : (f : ℕ → ℕ) (n i : ℕ) → n ≤ i + 1 → ((k : ℕ) → k ≤ i → i < k + n → f k < 2) → number f n i < 2 ^ n
unfolding number
number_lt f zero i room digits = omega arith
number_lt f (suc n) i room digits = grind (arith, common_steps, number, pow-suc, pow_pos, number_lt f n)

number_bit : (f : ℕ → ℕ) (n i t : ℕ) → n ≤ i + 1 → t < n → ((k : ℕ) → k ≤ i → i < k + n → f k < 2) → bit_at (number f n i) t ≡ f (i - t)
unfolding number
number_bit f zero i t room within digits = absurd (omega arith)
number_bit f (suc n) i zero room within digits = grind (arith, common_steps, bit_at_lowest, number)
number_bit f (suc n) i (suc t) room within digits = grind (arith, common_steps, number, bit_at-suc, number_bit f n (i - 1) t (omega arith) (omega arith) (λ k l h. digits k (omega arith) (omega arith)))

pub window_lt : (b : List ℕ) (i : ℕ) → 25 ≤ i → i < length b → ((k : ℕ) → k ≤ i → i < k + 26 → get_or b k 0 < 2) → window b i < 2 ^ 26
window_lt b i first last digits = subst (λ x. x < 2 ^ 26) (sym (window_is b i first last)) (number_lt (λ k. get_or b k 0) 26 i (omega arith) digits)

pub window_bit : (b : List ℕ) (i t : ℕ) → 25 ≤ i → i < length b → t < 26 → ((k : ℕ) → k ≤ i → i < k + 26 → get_or b k 0 < 2) → bit_at (window b i) t ≡ get_or b (i - t) 0
window_bit b i t first last within digits = grind (arith, common_steps, window_is, number_bit)
