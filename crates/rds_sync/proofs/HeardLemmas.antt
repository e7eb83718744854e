-- The windows heard in a recording determine offsets, acquiring, and the reading of a block.
use Rattle.rds_sync.proofs.Names.{common_steps, ◌≡◌, ℕ, ◌+◌, ◌-◌, ◌*◌, ◌<◌, ◌≤◌, Bool, true, false, Option, Some, None, refl, ap, arith, eqb, le-ltb, lt-ltb, list_any, range_with_len, Offset, Wanted, Reading, number, Signal, heard, offset_heard, reading_heard, offset_at, Read, acquired, has_number, has_partner, is_in_step, is_numbered, RuleNumbers, is_valid, [], ◌∷◌, missing, valid, zero, suc, List, Either, reading_at, HaveRoom, block_at, wanted_beside, group, Outcome, outcome_of, was_valid, good_at, map, GroupRecord as Group}
use Rattle.rds_sync.proofs.RunLemmas.{acquired-none, acquired-some}

-- no window ends before place 25
pub off-early : (b : Signal) (i : ℕ) → i < 25 → offset_at b i ≡ None
unfolding offset_at
off-early b i early = rw (lt-ltb i 25 early, offset_at) refl

-- from there on the offset is that of the window heard
pub off-heard : (b : Signal) (i : ℕ) → 25 ≤ i → offset_at b i ≡ offset_heard (heard b i)
unfolding offset_at
off-heard b i late = rw (le-ltb i 25 late, offset_at) refl

-- and so is whether a place has a number
has_number-heard : (b : Signal) (i x : ℕ) → 25 ≤ i → has_number b i x ≡ is_numbered (offset_heard (heard b i)) x
unfolding has_number
has_number-heard b i x late = grind (arith, common_steps, eqb, number, off-heard)

-- a block is valid where its place has its number
pub good-reading : (b : Signal) (i x : ℕ) (h : Option ℕ) (wanted : Wanted) (limit : ℕ) (read : Reading) → 25 ≤ i → h ≡ heard b i
    → read ≡ reading_heard h x wanted limit → is_valid (Read read) ≡ has_number b i x
good-reading b i x h wanted limit read late heard_is read_is = grind (arith, common_steps, is_valid, is_numbered, offset_heard, has_number-heard)

-- a test that fails at the first place of a range is left to the others
pub any-later : (p : ℕ → Bool) (k end : ℕ) → k < end → p k ≡ false
    → list_any p (range_with_len k (end - k)) ≡ list_any p (range_with_len (k + 1) (end - (k + 1)))
any-later p k end within fails = grind (arith, common_steps)

pub acquired-early : (b : Signal) (rules : RuleNumbers) (i : ℕ) → i < 25 → acquired b rules i ≡ None
acquired-early b rules i early = acquired-none b rules i (off-early b i early)

-- whether a place with an offset acquires is a matter of its partner
pub acquired-offset : (b : Signal) (rules : RuleNumbers) (i n : ℕ) (o : Offset) (found answer : Bool) → offset_at b i ≡ Some o → n ≡ number o
    → found ≡ list_any (has_partner b i n) (range_with_len 1 rules.reach) → found ≡ answer
    → acquired b rules i ≡ elim answer as (λ _. Option ℕ) [ true ↦ Some n | false ↦ None ]
acquired-offset b rules i n o found answer here is_number is_found answered = grind (arith, common_steps, acquired-some, has_partner)

-- before place 25 there is no partner
pub has_partner-early : (b : Signal) (i x k : ℕ) → i - 26 * k < 25 → has_partner b i x k ≡ false
has_partner-early b i x k early = ap (λ (o : Option Offset). is_in_step o x k) (off-early b (i - 26 * k) early)

-- How the blocks of a group came out says which of them were valid.

-- how the blocks came out
abbrev pub outcomes : Group → List Outcome
outcomes g = map outcome_of g.blocks

module _ (b : Signal) (rules : RuleNumbers) (f x p : ℕ) where
  -- a block that was read is valid where its place has its number
  pub good_block : (wanted : Wanted) (y : ℕ) → f ≤ y → y ≤ x → HaveRoom f x p → was_valid (outcome_of (block_at b rules f x p wanted y)) ≡ has_number b (p - 26 * (x - y)) y
  good_block wanted y low high room = grind (arith, common_steps, good-reading b (p - 26 * (x - y)) y (heard b (p - 26 * (x - y))) wanted rules.burst (reading_at b (p - 26 * (x - y)) y wanted rules.burst) (omega (arith, room)) refl refl)

  pub good-at : (y : ℕ) → 1 ≤ f → f ≤ y → y ≤ x → x ≤ 4 → HaveRoom f x p → good_at (outcomes (group b rules f x p)) y ≡ has_number b (p - 26 * (x - y)) y
  unfolding group
  good-at zero one low high four room = absurd (omega arith)
  good-at (suc zero) one low high four room = good_block Either 1 low high room
  good-at (suc (suc zero)) one low high four room = good_block Either 2 low high room
  good-at (suc (suc (suc zero))) one low high four room = good_block (wanted_beside (block_at b rules f x p Either 2)) 3 low high room
  good-at (suc (suc (suc (suc zero)))) one low high four room = good_block Either 4 low high room
  good-at (suc (suc (suc (suc (suc y))))) one low high four room = absurd (omega arith)

pub valid-only : (o : Outcome) → was_valid o ≡ true → o ≡ valid
valid-only o h = grind (arith, common_steps)

-- only a valid block 4
pub last-alone : (b : Signal) (rules : RuleNumbers) (p : ℕ) → 25 ≤ p → has_number b p 4 ≡ true → outcomes (group b rules 4 4 p) ≡ missing ∷ missing ∷ missing ∷ valid ∷ []
unfolding group
last-alone b rules p late there = grind (arith, common_steps, good-at b rules 4 4 p 4 (omega arith) (omega arith) (omega arith) (omega arith) (omega arith))
