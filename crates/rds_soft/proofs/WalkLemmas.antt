-- One symbol of the look back.
use Rattle.rds_soft.proofs.Names.{common_steps, ◌≡◌, ◌*◌, ◌%◌, ℕ, suc, ◌+◌, ◌^◌, ◌<◌, ◌≤◌, Bool, true, false, refl, arith, rules, bit_xor, min, min-le_left, least, is_flipped, lightest, second, IsWalk, lt-ltb, le-ltb}
use Rattle.rds_soft.proofs.{LightestLemmas.least_small, LightestLemmas.second_small, SecondLemmas.lightest_small}

if_true : (t : Bool) (a b : ℕ) → t ≡ true → elim t [ false ↦ a | true ↦ b ] ≡ b
if_true t a b is = grind (arith, common_steps, rules)

if_false : (t : Bool) (a b : ℕ) → t ≡ false → elim t [ false ↦ a | true ↦ b ] ≡ a
if_false t a b is = grind (arith, common_steps, rules)

-- one symbol more, by the definitions
least_more : (e c : ℕ → ℕ) (n s : ℕ) → least e c (suc n) s ≡ min (least e c n s) (least e c n (bit_xor s (e n)) + c n)
unfolding least
least_more e c n s = refl

lightest_turned : (e c : ℕ → ℕ) (n s : ℕ) → is_flipped e c n s ≡ true
    → lightest e c (suc n) s ≡ 2 ^ n + lightest e c n (bit_xor s (e n))
unfolding lightest
lightest_turned e c n s is = if_true (is_flipped e c n s) (lightest e c n s) (2 ^ n + lightest e c n (bit_xor s (e n))) is

lightest_kept : (e c : ℕ → ℕ) (n s : ℕ) → is_flipped e c n s ≡ false → lightest e c (suc n) s ≡ lightest e c n s
unfolding lightest
lightest_kept e c n s is = if_false (is_flipped e c n s) (lightest e c n s) (2 ^ n + lightest e c n (bit_xor s (e n))) is

second_turned : (e c : ℕ → ℕ) (n s : ℕ) → is_flipped e c n s ≡ true
    → second e c (suc n) s ≡ min (least e c n s) (second e c n (bit_xor s (e n)) + c n)
unfolding second
second_turned e c n s is = grind (arith, common_steps, if_true)

second_kept : (e c : ℕ → ℕ) (n s : ℕ) → is_flipped e c n s ≡ false
    → second e c (suc n) s ≡ min (least e c n (bit_xor s (e n)) + c n) (second e c n s)
unfolding second
second_kept e c n s is = grind (arith, common_steps, if_false)

-- the walk begins
pub walk_begins : (e c : ℕ → ℕ) (s : ℕ) → s < 1024 → IsWalk e c s 27 s 0 0 255
walk_begins e c s small = grind (arith, common_steps, second_small)

-- the symbol is flipped
pub walk_turned : (e c : ℕ → ℕ) (s m n left flips spent others turned kept base add : ℕ) → IsWalk e c s m left flips spent others → m ≡ suc n
    → turned ≡ bit_xor left (e n) → turned < 1024 → kept ≡ least e c n left → base ≡ least e c n turned → add ≡ c n → base + add < kept
    → IsWalk e c s n turned (flips + 2 ^ n) (spent + add) (min others (spent + kept))
walk_turned e c s m n left flips spent others turned kept base add h is turned_is small kept_is base_is add_is less = grind (arith, common_steps, lt-ltb, lightest_turned, least_more, second_turned, min-le_left)

-- the symbol is kept
pub walk_kept : (e c : ℕ → ℕ) (s m n left flips spent others turned kept base add : ℕ) → IsWalk e c s m left flips spent others → m ≡ suc n
    → turned ≡ bit_xor left (e n) → kept ≡ least e c n left → base ≡ least e c n turned → add ≡ c n → kept ≤ base + add
    → IsWalk e c s n left flips spent (min others (spent + (base + add)))
walk_kept e c s m n left flips spent others turned kept base add h is turned_is kept_is base_is add_is le = grind (arith, common_steps, le-ltb, lightest_kept, least_more, second_kept, min-le_left)

-- a walk's weight and flips are small
pub spent_small : (e c : ℕ → ℕ) (s m left flips spent others : ℕ) → IsWalk e c s m left flips spent others → spent ≤ 255
spent_small e c s m left flips spent others h = grind (arith, common_steps, least_small)

pub flips_small : (e c : ℕ → ℕ) (s m left flips spent others : ℕ) → IsWalk e c s m left flips spent others → flips < 2 ^ 27
flips_small e c s m left flips spent others h = grind (arith, common_steps, lightest_small)

-- a power as the code computes it
pub power_is : (flips n : ℕ) → flips + 2 ^ n < 2 ^ 27 → 1 * 2 ^ n % 4294967296 ≡ 2 ^ n
power_is flips n small = omega (arith, small)
