-- Lanes of sixteen weights.
use Rattle.rds_code.proofs.Membership.{each_below, EachBelow}
use Rattle.std.proofs.{Math.Nat.mod-lt, lemmas.Nat.mod-pow-add, lemmas.Nat.pow_pos}
use Rattle.rds_soft.proofs.Names.{common_steps, xor_comm, xor_assoc, ◌++◌, length, ◌≡◌, ℕ, ◌+◌, ◌*◌, ◌/◌, ◌%◌, ◌^◌, ◌<◌, ◌≤◌, List, cond, ltb, get_or, sym, ap, subst, ◌∙◌, arith, rules, bit_xor, min, ◌-◌, inl, inr, min-eq_left, min-eq_right, cases_lt, T, all_below, pick_l, xor_lt, xor_block, pick_l_left, xor_zero_r}

pub lesser_is : (a b : ℕ) → cond (ltb a b) a b ≡ min a b
lesser_is a b = grind (arith, common_steps, rules, min-eq_left, min-eq_right, ltb)

-- an effect permutes blocks of sixteen, and the places in each
pub sum_turned : (block j e : ℕ) → j < 16 → 16 * bit_xor block (e / 16) + bit_xor j (e % 16) ≡ bit_xor (16 * block + j) e
sum_turned block j e less =
    let whole : (e / 16) * 2 ^ 4 + e % 16 ≡ e = omega arith in
    let here : block * 2 ^ 4 + j ≡ 16 * block + j = omega arith in
    let split : bit_xor (block * 2 ^ 4 + j) ((e / 16) * 2 ^ 4 + e % 16) ≡ bit_xor block (e / 16) * 2 ^ 4 + bit_xor j (e % 16) =
    xor_block 4 block (e / 16) j (e % 16) less (omega arith) in
    let first : 16 * bit_xor block (e / 16) + bit_xor j (e % 16) ≡ bit_xor (block * 2 ^ 4 + j) ((e / 16) * 2 ^ 4 + e % 16) = omega (arith, split) in
    first ∙ ap (λ (x : ℕ). bit_xor x ((e / 16) * 2 ^ 4 + e % 16)) here ∙ ap (bit_xor (16 * block + j)) whole

pub turned_within : (j e : ℕ) → j < 16 → bit_xor j (e % 16) < 16
turned_within j e less = xor_lt 4 j (e % 16) less (omega arith)

-- the cap does not count beside a byte
pub capped : (kept heavy a b flipped c : ℕ) → kept ≡ a → kept < 256 → flipped ≡ b → heavy ≡ min (flipped + c) 255
    → min kept heavy ≡ min a (b + c)
capped kept heavy a b flipped c same byte turn cap = omega (arith, same, byte, turn, cap)

-- one block more
pub block_more : (P : ℕ → Type 0) (n : ℕ) → ((s : ℕ) → s < 16 * n → P s) → ((j : ℕ) → j < 16 → P (16 * n + j))
    → (s : ℕ) → s < 16 * (n + 1) → P s
block_more P n before here s less = elim (cases_lt s (16 * n)) [
  | inl low ↦ before s low
  | inr high ↦ subst P (omega (arith, high)) (here (s - 16 * n) (omega (arith, less, high)))
]

-- a sum that is capped first does not wrap
pub capped_sum : (a weight c : ℕ) → c ≤ 255 → a ≡ min weight (255 - c) → (a + c) % 256 ≡ min (weight + c) 255
capped_sum a weight c small is = omega (arith, small, is)

-- a block whose places are exchanged by 2^k
pub turned_block : (k : ℕ) (xs ys ks : List ℕ) (n : ℕ) → n ≡ k → ys ≡ pick_l 0 (xs ++ xs) ks → length xs ≡ 16 → T (all_below 16 ks)
    → EachBelow (λ (j : ℕ). get_or (pick_l 0 xs ks) j 0 ≡ get_or xs (bit_xor j (2 ^ k)) 0) 16
    → (j : ℕ) → j < 16 → get_or ys j 0 ≡ get_or xs (bit_xor j (2 ^ n)) 0
turned_block k xs ys ks n same is long below at j less =
    ap (λ (l : List ℕ). get_or l j 0) (is ∙ pick_l_left 0 xs xs 16 ks long below)
    ∙ each_below (λ (j : ℕ). get_or (pick_l 0 xs ks) j 0 ≡ get_or xs (bit_xor j (2 ^ k)) 0) 16 at j less
    ∙ ap (λ (m : ℕ). get_or xs (bit_xor j (2 ^ m)) 0) (sym same)

-- the lowest bits of an effect, and one more
one_more : (e k : ℕ) → e % 2 ^ (k + 1) ≡ (e / 2 ^ k % 2) * 2 ^ k + e % 2 ^ k
one_more e k = let n : 1 + k ≡ k + 1 = omega arith in sym (ap (λ (m : ℕ). e % 2 ^ m) n) ∙ mod-pow-add e 1 k

xor_top : (k r : ℕ) → r < 2 ^ k → bit_xor (2 ^ k) r ≡ 2 ^ k + r
xor_top k r less = grind (arith, common_steps, xor_block k 1 0 0 r (pow_pos k) less, xor_comm, xor_zero_r)

pub next_turn : (e k j : ℕ) → e / 2 ^ k % 2 ≡ 1 → bit_xor (bit_xor j (2 ^ k)) (e % 2 ^ k) ≡ bit_xor j (e % 2 ^ (k + 1))
next_turn e k j set = grind (arith, common_steps, xor_assoc, xor_top k (e % 2 ^ k) (mod-lt e (pow_pos k)), one_more e k, set)

pub no_turn : (e k : ℕ) → e / 2 ^ k % 2 ≡ 0 → e % 2 ^ (k + 1) ≡ e % 2 ^ k
no_turn e k none = grind (arith, common_steps, one_more e k, none)
