-- A row that follows one of least weights has those with one symbol more.
use Rattle.rds_soft.proofs.Names.{common_steps, ◌≡◌, ℕ, suc, ◌+◌, ◌<◌, ◌≤◌, List, [], ap, ◌∙◌, arith, bit_xor, min, length, slice_index, get_or, set, inl, inr, xor_lt, cases_lt, get_or-set_same, get_or-set_other, least, Follows, AreLeast}

pub next_are_least : (e c : ℕ → ℕ) (n : ℕ) (row next : List ℕ) → e n < 1024 → AreLeast e c n row → length next ≡ 1024
    → Follows row (e n) (c n) next → AreLeast e c (suc n) next
unfolding least
next_are_least e c n row next small least_of long first = record {
  long = long;
  each = λ s less. first s less
      ∙ ap (λ (a : ℕ). min a (slice_index row (bit_xor s (e n)) + c n)) (least_of.each s less)
      ∙ ap (λ (b : ℕ). min (least e c n s) (b + c n)) (least_of.each (bit_xor s (e n)) (xor_lt 10 s (e n) less small));
}

-- rows up to n and one more
pub one_row_more : (e c : ℕ → ℕ) (n m : ℕ) (rows : List (List ℕ)) (row : List ℕ) → m ≡ suc n → m < length rows
    → ((k : ℕ) → k ≤ n → AreLeast e c k (get_or rows k [])) → AreLeast e c (suc n) row
    → (k : ℕ) → k ≤ m → AreLeast e c k (get_or (set rows m row) k [])
one_row_more e c n m rows row is long before here k le = elim (cases_lt k m) [
  | inl less ↦ grind (arith, common_steps, before k (omega (arith, less, is)), get_or-set_other rows m k row [] (λ same. absurd (omega (arith, same, less))))
  | inr more ↦ grind (arith, common_steps, here, get_or-set_same rows m row [] long)
]
