-- How the blocks of a group came out, as a word of 16 bits.
use Rattle.rds_sync.proofs.Names.{◌≡◌, ℕ, zero, suc, ◌+◌, ◌*◌, ◌/◌, ◌%◌, ◌≤◌, List, [], ◌∷◌, refl, ap, ◌∙◌, arith, Outcome, missing, valid, lost, corrected, nibble, outcome_at, IsShort, AreShort, word_of_blocks, blocks_in, common_steps, ◌^◌, ◌<◌, min, get_or, Bool, true, false, Option, Some, None, sym, subst, inl, inr, lt-leb, pow-suc, nat_le, ◌&&◌, count_ones, ones, ones_step, count_leading_zeros, count_trailing_zeros, burst_length, bursts, IsBurst, ReadsByRule, ListsBursts, reading, Wanted, Reading, Valid, Corrected, Lost, Signal, heard, reading_heard, reading_at, Read, RuleNumbers, group, block_at, wanted_beside, outcome_of, All, map, Block, GroupRecord, blocks_at, ◌≢◌, ◌-◌, ◌⊎◌, ◌++◌, mod-eq_of_lt, pow_pos, outcome_number, Either, Item, Group, LostLock, State, Searching, Locked, acquired, has_number, CountOf, joined, group_count, loss_count, added, IsLostAtOnce, wanted_behind, first_behind, word_of_two, HaveRoom, bad_after, are_too_many, items_at, run, history_after_block, lock_after, lock_of, is_valid, list_all, AllPass-from_list_all}
use Rattle.rds_sync.proofs.{HeardLemmas.outcomes, HeardLemmas.valid-only, HeardLemmas.good_block, HeardLemmas.good-reading, GroupBlocks.group-blocks, GroupBlocks.block_at-read, GroupBlocks.block_at-missing, GroupBlocks.outcome-nibble, TotalsLemmas.lost-added, RunLemmas.step-acquiring, RunLemmas.step-losing, RunLemmas.items-losing, RunLemmas.run-due, RunLemmas.run-found, RunLemmas.run-further}

-- four bits tell an outcome
pub record IsNibble (o : Outcome) : Type 0 where
  pub few : nibble o ≤ 13
  pub back : outcome_at (nibble o) ≡ o

-- a burst of span s with n bits
abbrev IsToldBy : ℕ → ℕ → Type 0
IsToldBy s n = IsShort (corrected s n) → IsNibble (corrected s n)

-- a property of 0 to 5 is one of each number up to 5
each-to-five : (P : ℕ → Type 0) → P 0 → P 1 → P 2 → P 3 → P 4 → P 5 → (k : ℕ) → k ≤ 5 → P k
each-to-five P none one two three four five k h = grind (arith, common_steps)

nibble-is : (o : Outcome) → IsShort o → IsNibble o
nibble-is missing h = record { few = omega arith; back = refl }
nibble-is valid h = record { few = omega arith; back = refl }
nibble-is lost h = record { few = omega arith; back = refl }
nibble-is (corrected s n) h =
    each-to-five (λ (s : ℕ). (n : ℕ) → IsToldBy s n) (λ n h. absurd (omega (arith, h)))
    (λ n h. each-to-five (IsToldBy 1) (λ h. absurd (omega (arith, h))) (λ h. record { few = omega arith; back = refl }) (λ h. absurd (omega (arith, h))) (λ h. absurd (omega (arith, h))) (λ h. absurd (omega (arith, h))) (λ h. absurd (omega (arith, h))) n (omega (arith, h)) h)
    (λ n h. each-to-five (IsToldBy 2) (λ h. absurd (omega (arith, h))) (λ h. absurd (omega (arith, h))) (λ h. record { few = omega arith; back = refl }) (λ h. absurd (omega (arith, h))) (λ h. absurd (omega (arith, h))) (λ h. absurd (omega (arith, h))) n (omega (arith, h)) h)
    (λ n h. each-to-five (IsToldBy 3) (λ h. absurd (omega (arith, h))) (λ h. absurd (omega (arith, h))) (λ h. record { few = omega arith; back = refl }) (λ h. record { few = omega arith; back = refl }) (λ h. absurd (omega (arith, h))) (λ h. absurd (omega (arith, h))) n (omega (arith, h)) h)
    (λ n h. each-to-five (IsToldBy 4) (λ h. absurd (omega (arith, h))) (λ h. absurd (omega (arith, h))) (λ h. record { few = omega arith; back = refl }) (λ h. record { few = omega arith; back = refl }) (λ h. record { few = omega arith; back = refl }) (λ h. absurd (omega (arith, h))) n (omega (arith, h)) h)
    (λ n h. each-to-five (IsToldBy 5) (λ h. absurd (omega (arith, h))) (λ h. absurd (omega (arith, h))) (λ h. record { few = omega arith; back = refl }) (λ h. record { few = omega arith; back = refl }) (λ h. record { few = omega arith; back = refl }) (λ h. record { few = omega arith; back = refl }) n (omega (arith, h)) h)
    s h.1 n h

-- a word tells the four outcomes that it is of
pub tells : (os : List Outcome) → AreShort os → blocks_in (word_of_blocks os) ≡ os
tells [] h = absurd (omega (arith, h.0))
tells (o ∷ []) h = absurd (omega (arith, h.0))
tells (o ∷ p ∷ []) h = absurd (omega (arith, h.0))
tells (o ∷ p ∷ q ∷ []) h = absurd (omega (arith, h.0))
tells (o ∷ p ∷ q ∷ r ∷ s ∷ os) h = absurd (omega (arith, h.0))
tells (o ∷ p ∷ q ∷ r ∷ []) h =
    let a = nibble-is o (h.1 0 missing (omega arith)) in
    let b = nibble-is p (h.1 1 missing (omega arith)) in
    let c = nibble-is q (h.1 2 missing (omega arith)) in
    let d = nibble-is r (h.1 3 missing (omega arith)) in
    let w : ℕ = nibble o + 16 * (nibble p + 16 * (nibble q + 16 * (nibble r + 16 * 0))) in
    let first : w % 16 ≡ nibble o = omega (arith, a.few, b.few, c.few, d.few) in
    let second : w / 16 % 16 ≡ nibble p = omega (arith, a.few, b.few, c.few, d.few) in
    let third : w / 256 % 16 ≡ nibble q = omega (arith, a.few, b.few, c.few, d.few) in
    let fourth : w / 4096 ≡ nibble r = omega (arith, a.few, b.few, c.few, d.few) in
    four (ap outcome_at first ∙ a.back) (ap outcome_at second ∙ b.back) (ap outcome_at third ∙ c.back) (ap outcome_at fourth ∙ d.back) where
      four : {o2 p2 q2 r2 : Outcome} → o2 ≡ o → p2 ≡ p → q2 ≡ q → r2 ≡ r → o2 ∷ p2 ∷ q2 ∷ r2 ∷ [] ≡ o ∷ p ∷ q ∷ r ∷ []
      four e f g k = cc

-- How the blocks of a group come out has a word of 16 bits.

-- a span and a number of bits that have four bits
abbrev is_short : ℕ → ℕ → Bool
is_short s n = nat_le 1 s && (nat_le s 5 && (nat_le (min 2 s) n && nat_le n s))

-- the ones among n binary digits, which computes if `count_ones` is too deep
abbrev ones_in : ℕ → ℕ → ℕ
ones_in zero e = 0
ones_in (suc k) e = e % 2 + ones_in k (e / 2)

ones_none : count_ones 0 ≡ 0
unfolding ones
ones_none = refl

ones_are : (k e : ℕ) → e < 2 ^ k → count_ones e ≡ ones_in k e
ones_are zero e h = let none : e ≡ 0 = omega (arith, h) in ap (λ (n : ℕ). count_ones n) none ∙ ones_none
ones_are (suc k) e h =
    let power : 2 ^ suc k ≡ 2 * 2 ^ k = omega (arith, pow-suc 2 k) in
    ones_step e ∙ ap (λ (n : ℕ). e % 2 + n) (ones_are k (e / 2) (omega (arith, h, power)))

-- each burst of up to five bits does
all_short : list_all (λ e. is_short (burst_length e) (ones_in 26 e)) (bursts 5) ≡ true
unfolding count_leading_zeros count_trailing_zeros
all_short = refl

both : (s t : Bool) → (s && t) ≡ true → (s ≡ true) × (t ≡ true)
both s t h = grind (arith, common_steps)

le_from : (m n : ℕ) → nat_le m n ≡ true → m ≤ n
le_from m n h = grind (arith, common_steps, lt-leb)

short_from : (s n : ℕ) → is_short s n ≡ true → IsShort (corrected s n)
short_from s n h = grind (arith, common_steps, both, le_from, min)

pub all_four : (P : Outcome → Type 0) (o p q r : Outcome) → P o → P p → P q → P r → All P (o ∷ p ∷ q ∷ r ∷ [])
all_four P o p q r one two three four = grind (arith, common_steps)

pub burst-short : ListsBursts → (limit e : ℕ) → limit ≤ 5 → IsBurst limit e → IsShort (corrected (burst_length e) (count_ones e))
burst-short lists limit e few is =
    let short = is.short in
    let five : IsBurst 5 e = record { is_block = is.is_block; not_zero = is.not_zero; short = omega (arith, short) } in
    let listed = (lists 5 e (omega arith)).0 five in
    let pass : is_short (burst_length (get_or (bursts 5) listed.0 e)) (ones_in 26 (get_or (bursts 5) listed.0 e)) ≡ true =
    AllPass-from_list_all (λ d. is_short (burst_length d) (ones_in 26 d)) (bursts 5) all_short listed.0 e listed.1 in
    let bits : ones_in 26 e ≡ count_ones e = sym (ones_are 26 e is.is_block) in
    short_from (burst_length e) (count_ones e)
    (subst (λ (n : ℕ). is_short (burst_length e) n ≡ true) bits (subst (λ (d : ℕ). is_short (burst_length d) (ones_in 26 d) ≡ true) listed.2 pass))

pub record BurstLaws : Type 0 where
  pub lists : ListsBursts
  pub reads : ReadsByRule

module _ (laws : BurstLaws) where
  reading-short : (h : Option ℕ) (y : ℕ) (wanted : Wanted) (limit : ℕ) → 1 ≤ y → y ≤ 4 → limit ≤ 5 → IsShort (outcome_of (Read (reading_heard h y wanted limit)))
  reading-short None y wanted limit low high few = tt
  reading-short (Some w) y wanted limit low high few = at_case (reading w y wanted limit) refl where
    at_case : (r : Reading) → reading w y wanted limit ≡ r → IsShort (outcome_of (Read (reading w y wanted limit)))
    at_case (Valid o info) e = subst (λ (r : Reading). IsShort (outcome_of (Read r))) (sym e) tt
    at_case Lost e = subst (λ (r : Reading). IsShort (outcome_of (Read r))) (sym e) tt
    at_case (Corrected o info burst) e =
        let is = (laws.reads w y wanted limit (Corrected o info burst) low high few).1 (sym e) in
        subst (λ (r : Reading). IsShort (outcome_of (Read r))) (sym e) (burst-short laws.lists limit burst few is.1.fits.burst)

  block-short : (b : Signal) (rules : RuleNumbers) (f x p : ℕ) (wanted : Wanted) (y : ℕ) → 1 ≤ y → y ≤ 4 → rules.burst ≤ 5 → IsShort (outcome_of (block_at b rules f x p wanted y))
  block-short b rules f x p wanted y low high few = grind (arith, common_steps, nat_le, outcome_of, reading_at, reading-short, heard)

  pub group-short : (b : Signal) (rules : RuleNumbers) (f x p : ℕ) → rules.burst ≤ 5 → AreShort (outcomes (group b rules f x p))
  unfolding group
  group-short b rules f x p few = grind (arith, common_steps, block-short, wanted_beside, block_at, all_four)

-- The words of the groups that are read.

-- the word of four blocks tells how they came out
pub word-of-four : (bs : List Block) (one two three four : Block) → bs ≡ one ∷ two ∷ three ∷ four ∷ [] → (k l m n : ℕ)
    → k ≡ nibble (outcome_of one) → l ≡ nibble (outcome_of two) → m ≡ nibble (outcome_of three) → n ≡ nibble (outcome_of four)
    → IsShort (outcome_of one) → IsShort (outcome_of two) → IsShort (outcome_of three) → IsShort (outcome_of four)
    → blocks_in (k + 16 * (l + 16 * (m + 16 * n))) ≡ map outcome_of bs
word-of-four bs one two three four are k l m n is_k is_l is_m is_n short_k short_l short_m short_n =
    let os : List Outcome = map outcome_of (one ∷ two ∷ three ∷ four ∷ []) in
    let word : k + 16 * (l + 16 * (m + 16 * n)) ≡ word_of_blocks os = omega (arith, is_k, is_l, is_m, is_n) in
    ap blocks_in word ∙ tells os (refl, all_four IsShort _ _ _ _ short_k short_l short_m short_n) ∙ ap (λ (blocks : List Block). map outcome_of blocks) (sym are)

module _ (b : Signal) (rules : RuleNumbers) (f x p : ℕ) (bs : List Block) (are : bs ≡ blocks_at b rules f x p) where
  -- the outcomes of the blocks are those of their group
  pub outcomes-are : map outcome_of bs ≡ outcomes (group b rules f x p)
  outcomes-are = ap (λ (g : GroupRecord). outcomes g) (group-blocks b rules f x p bs are)

  -- their word tells these outcomes
  pub word-tells : BurstLaws → rules.burst ≤ 5 → (w : ℕ) → w ≡ word_of_blocks (map outcome_of bs) → blocks_in w ≡ outcomes (group b rules f x p)
  word-tells laws few w is = grind (arith, common_steps, blocks_in, tells, outcome_of, outcomes-are, group-short)

-- The group of a lock that its second block loses, and the run over it.

-- one bad block is a share of one
pub share-of-one : (of : ℕ) → 1 ≤ of → nat_le 1 (count_ones ((2 * 0 + 1) % 2 ^ of)) ≡ true
unfolding ones
share-of-one zero some = absurd (omega arith)
share-of-one (suc v) some = grind (arith, common_steps, pow-suc, pow_pos, mod-eq_of_lt, nat_le, count_ones)

-- a block of another outcome than a valid one's is bad
bad-outcome : (r : Reading) → outcome_number r ≢ 1 → is_valid (Read r) ≡ false
bad-outcome r h = grind (arith, common_steps)

pub bad-there : (b : Signal) (i x : ℕ) (wanted : Wanted) (limit k : ℕ) → 25 ≤ i → k ≡ outcome_number (reading_at b i x wanted limit) → k ≢ 1 → has_number b i x ≡ false
bad-there b i x wanted limit k late is other = grind (arith, common_steps, good-reading, heard, reading_at, bad-outcome, outcome_number, has_number, good-reading b i x (heard b i) wanted limit (reading_at b i x wanted limit) late refl refl, bad-outcome (reading_at b i x wanted limit) (λ e. other (is ∙ e)))

-- the word of four blocks, by their four bits
word-sum : (o p q r : Outcome) (k l m n : ℕ) → nibble o ≡ k → nibble p ≡ l → nibble q ≡ m → nibble r ≡ n
    → k + 16 * l + 256 * m + 4096 * n ≡ word_of_blocks (o ∷ p ∷ q ∷ r ∷ [])
word-sum o p q r k l m n first second third fourth = omega (arith, first, second, third, fourth)

module _ (b : Signal) (rules : RuleNumbers) (f n p : ℕ) where
  -- the four bits of the last block, of one that is missing, and of a valid one
  last-is : (wanted : Wanted) (k : ℕ) → f ≤ n → k ≡ outcome_number (reading_at b p n wanted rules.burst) → nibble (outcome_of (block_at b rules f n p wanted n)) ≡ k
  last-is wanted k low is = grind (arith, common_steps, nibble, outcome_of, block_at-read, reading_at, outcome-nibble)

  missing-is : (wanted : Wanted) (y : ℕ) → (y < f) ⊎ (n < y) → nibble (outcome_of (block_at b rules f n p wanted y)) ≡ 0
  missing-is wanted y outside = ap (λ (block : Block). nibble (outcome_of block)) (block_at-missing b rules f n p wanted y outside)

  valid-is : (wanted : Wanted) (y place : ℕ) → f ≤ y → y ≤ n → HaveRoom f n p → p - 26 * (n - y) ≡ place → has_number b place y ≡ true
      → nibble (outcome_of (block_at b rules f n p wanted y)) ≡ 1
  valid-is wanted y place low high room there good = grind (arith, common_steps, nibble, valid-only, good_block, has_number, outcome_of, block_at, good_block b rules f n p wanted y low high room)

-- the word of a group, by the four bits of its blocks
word-are : (b : Signal) (rules : RuleNumbers) (f n p k l m r : ℕ) → nibble (outcome_of (block_at b rules f n p Either 1)) ≡ k
    → nibble (outcome_of (block_at b rules f n p Either 2)) ≡ l
    → nibble (outcome_of (block_at b rules f n p (wanted_beside (block_at b rules f n p Either 2)) 3)) ≡ m
    → nibble (outcome_of (block_at b rules f n p Either 4)) ≡ r
    → k + 16 * l + 256 * m + 4096 * r ≡ word_of_blocks (map outcome_of (blocks_at b rules f n p))
word-are b rules f n p k l m r first second third fourth = grind (arith, common_steps, word-sum, outcome_of, block_at, wanted_beside)

-- the word of a valid block and the next one
pub two-are : (b : Signal) (rules : RuleNumbers) (place x k : ℕ) → 25 ≤ place → 1 ≤ x → x ≤ 4 → has_number b place x ≡ true
    → k ≡ outcome_number (reading_at b (place + 26) (x % 4 + 1) (wanted_behind b rules place x) rules.burst)
    → word_of_two x k ≡ word_of_blocks (map outcome_of (blocks_at b rules (first_behind x) (x % 4 + 1) (place + 26)))
two-are b rules place zero k late low high good is = absurd (omega arith)
two-are b rules place (suc zero) k late low high good is =
    let p : ℕ = place + 26 in
    let beside : Wanted = wanted_beside (block_at b rules 1 2 p Either 2) in
    let sum : 1 + 16 * k ≡ 1 + 16 * k + 256 * 0 + 4096 * 0 = omega arith in
    sum ∙ word-are b rules 1 2 p 1 k 0 0
    (valid-is b rules 1 2 p Either 1 place (omega arith) (omega arith) (omega arith) (omega arith) good)
    (last-is b rules 1 2 p Either k (omega arith) is)
    (missing-is b rules 1 2 p beside 3 (inr (omega arith)))
    (missing-is b rules 1 2 p Either 4 (inr (omega arith)))
two-are b rules place (suc (suc zero)) k late low high good is = grind (arith, common_steps, wanted_beside, block_at, reading_at, block_at-read, word-are, missing-is, valid-is, last-is, outcome_number, has_number, wanted_behind, word_of_two, word_of_blocks, outcome_of, blocks_at, first_behind, block_at-read b rules 2 3 (place + 26) Either 2 (omega arith) (omega arith), missing-is b rules 2 3 (place + 26) Either 1 (inl (omega arith)), valid-is b rules 2 3 (place + 26) Either 2 place (omega arith) (omega arith) (omega arith) (omega arith) good, missing-is b rules 2 3 (place + 26) Either 4 (inr (omega arith)))
two-are b rules place (suc (suc (suc zero))) k late low high good is =
    let p : ℕ = place + 26 in
    let beside : Wanted = wanted_beside (block_at b rules 3 4 p Either 2) in
    let sum : 256 + 4096 * k ≡ 0 + 16 * 0 + 256 * 1 + 4096 * k = omega arith in
    sum ∙ word-are b rules 3 4 p 0 0 1 k
    (missing-is b rules 3 4 p Either 1 (inl (omega arith)))
    (missing-is b rules 3 4 p Either 2 (inl (omega arith)))
    (valid-is b rules 3 4 p beside 3 place (omega arith) (omega arith) (omega arith) (omega arith) good)
    (last-is b rules 3 4 p Either k (omega arith) is)
two-are b rules place (suc (suc (suc (suc zero)))) k late low high good is =
    let p : ℕ = place + 26 in
    let beside : Wanted = wanted_beside (block_at b rules 1 1 p Either 2) in
    let sum : k ≡ k + 16 * 0 + 256 * 0 + 4096 * 0 = omega arith in
    sum ∙ word-are b rules 1 1 p k 0 0 0
    (last-is b rules 1 1 p Either k (omega arith) is)
    (missing-is b rules 1 1 p Either 2 (inr (omega arith)))
    (missing-is b rules 1 1 p beside 3 (inr (omega arith)))
    (missing-is b rules 1 1 p Either 4 (inr (omega arith)))
two-are b rules place (suc (suc (suc (suc (suc x))))) k late low high good is = absurd (omega arith)

-- the run from before a lock that its second block loses to after it
module _ (b : Signal) (rules : RuleNumbers) (here x to word : ℕ) (acquires : acquired b rules here ≡ Some x) (lost : IsLostAtOnce b rules here x to word) where
  abbrev lock : State
  lock = Locked (lock_after here x 0 x)

  many : are_too_many rules.loss (history_after_block b rules (here + 26) (x % 4 + 1) 0) ≡ true
  many = ap (λ (good : Bool). are_too_many rules.loss (bad_after rules.loss good 0)) lost.bad ∙ lost.loses

  last-items : items_at b rules (here + 26) lock ≡ Group (group b rules (first_behind x) (x % 4 + 1) (here + 26)) ∷ LostLock (here + 26) ∷ []
  last-items = items-losing b rules (lock_of (here + 26) (x % 4 + 1) 0 (first_behind x)) many

  pub short-run : (from : ℕ) → from ≤ here → ((j : ℕ) → from ≤ j → j < here → acquired b rules j ≡ None)
      → run b rules Searching from (here + 27 - from) ≡ (Searching, items_at b rules here Searching ++ items_at b rules (here + 26) lock)
  short-run from order none =
      let last = run-due b rules lock (here + 1) (here + 27) (lock_of (here + 26) (x % 4 + 1) 0 (first_behind x)) refl (omega arith) (omega arith) in
      run-further b rules Searching lock Searching (items_at b rules here Searching) (items_at b rules (here + 26) lock) from (here + 1) (here + 27) (omega arith) (omega arith)
      (run-found b rules from here order none ∙ ap (λ (s : State). (s, items_at b rules here Searching)) (step-acquiring b rules here x acquires))
      (sym (ap (λ (r : State × List Item). r.0) last ∙ step-losing b rules (lock_of (here + 26) (x % 4 + 1) 0 (first_behind x)) many))
      (sym (ap (λ (r : State × List Item). r.1) last))

  -- and the counts of it after its acquisition
  pub short-counts : (before mid after : CountOf) → mid ≡ joined before (group_count (blocks_in word)) → after ≡ joined mid loss_count
      → after ≡ added before (items_at b rules (here + 26) lock)
  short-counts before mid after first second = grind (arith, common_steps, lost-added, group, first_behind, blocks_in, added, last-items, joined, group_count, loss_count, items_at, lock, lost-added before mid after (group b rules (first_behind x) (x % 4 + 1) (here + 26)) (blocks_in word) (here + 26) lost.blocks first second)
