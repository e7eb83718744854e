-- Bad blocks in a row, and good ones in a row, by the loss history: for both rules of loss.
use Rattle.rds_sync.proofs.Names.{common_steps, ◌≡◌, ℕ, zero, suc, ◌+◌, ◌*◌, ◌%◌, ◌/◌, ◌^◌, ◌<◌, ◌≤◌, true, false, refl, ap, ◌∙◌, subst, arith, pow-suc, mul-le-mul_right, pow_pos, lt-leb, ones_step, count_ones, ⊤, Loss, Run, Share, IsLossRule, IsLawfulBad, bad_after, are_too_many, sound_blocks, ◌≢◌, [], ◌∷◌, List, Bool, length, get_or, is_some, count_by, All-filter, filter_passes, length-filter, Signal, offset_at, RuleNumbers, IsSound, IsRival, All, filter, ◌-◌, Option, Some, None, ap₂, add-zero, zero-add, inl, inr, ⊎_elim, cond, suc-add, cases_Bool, cases_eq, cases_lt, eqb-true, sum_by-cons, ◌==◌, number_after, Lock, State, Searching, Locked, IsLawful, Offset, number, acquired, has_number, with_partner, run, step, history_after_block, lock_of, lock_after, IsLastFour, SoundRangesHaveFours, RunsConverge}
use Rattle.rds_sync.proofs.{LossLemmas.double, LossLemmas.ones_below, LossLemmas.ones_zero, LossLemmas.lawful_none, LossLemmas.lawful_kept, RunLemmas.step-waiting, RunLemmas.step-keeping, RunLemmas.step-losing, RunLemmas.step-searching, RunLemmas.step-acquiring}
use Rattle.std.{specs.List.Sorted.IsStrictlyIncreasing, proofs.lemmas.List.Kept.IsStrictlyIncreasing-filter}

-- the lowest j digits of m are all f
abbrev pub Lows : ℕ → ℕ → ℕ → Type 0
Lows f zero m = ⊤
Lows f (suc j) m = (m % 2 ≡ f) × Lows f j (m / 2)

lows_below : (f j v m : ℕ) → j ≤ v → Lows f j m → Lows f j (m % 2 ^ v)
lows_below f zero v m h l = tt
lows_below f (suc j) zero m h l = absurd (omega arith)
lows_below f (suc j) (suc v) m h l = grind (arith, common_steps, lows_below f j v (m / 2) (omega arith) l.1, pow-suc, pow_pos, double)

lows_more : (f j v m : ℕ) → f ≤ 1 → suc j ≤ v → Lows f j m → Lows f (suc j) ((2 * m + f) % 2 ^ v)
lows_more f j v m small h l = grind (arith, common_steps, lows_below, lows_below f (suc j) v (2 * m + f) h (omega arith, subst (λ (n : ℕ). Lows f j n) (omega arith) l))

lows_ones : (j m : ℕ) → Lows 1 j m → j ≤ count_ones m
lows_ones zero m l = omega arith
lows_ones (suc j) m l = let s : count_ones m ≡ m % 2 + count_ones (m / 2) = ones_step m in omega (arith, s, l.0, lows_ones j (m / 2) l.1)

lows_none : (v m : ℕ) → m < 2 ^ v → Lows 0 v m → m ≡ 0
lows_none zero m h l = omega (arith, h)
lows_none (suc v) m h l =
    let power : 2 ^ suc v ≡ 2 * 2 ^ v = omega (arith, pow-suc 2 v) in
    let half : m / 2 ≡ 0 = lows_none v (m / 2) (omega (arith, h, power)) l.1 in
    omega (arith, half, l.0)

lows_zero : (i : ℕ) → Lows 0 i 0
lows_zero zero = tt
lows_zero (suc i) = (refl, lows_zero i)

-- a remainder has no more ones
ones_fewer : (v m : ℕ) → count_ones (m % 2 ^ v) ≤ count_ones m
ones_fewer zero m = let none : m % 1 ≡ 0 = omega arith in let e : count_ones (m % 1) ≡ 0 = ap count_ones none ∙ ones_zero in omega (arith, e)
ones_fewer (suc v) m = grind (arith, common_steps, count_ones, ones_step, ones_below, ones_fewer v (m / 2), pow-suc, pow_pos, double)

-- a good block loses no lock
pub good_keeps : (loss : Loss) (bad : ℕ) → IsLawfulBad loss bad → are_too_many loss (bad_after loss true bad) ≡ false
good_keeps loss bad h = grind (arith, common_steps, lt-leb, count_ones, ones_below, ones_fewer)

-- how many bad blocks lose a lock, and how many good ones leave nothing of the bad ones
abbrev pub needed : Loss → ℕ
needed (Run n) = n
needed (Share n v) = n

abbrev pub memory : Loss → ℕ
memory (Run n) = 1
memory (Share n v) = v

pub needed_is : (loss : Loss) (j : ℕ) → (j + 1) * needed loss + 6 ≤ sound_blocks loss j
needed_is loss j = grind (arith, common_steps)

pub memory_is : (loss : Loss) (j : ℕ) → IsLossRule loss → memory loss + 6 ≤ sound_blocks loss j
memory_is loss j h = grind (arith, common_steps, mul-le-mul_right)

-- at least the last r blocks were bad
abbrev pub HasRow : Loss → ℕ → ℕ → Type 0
HasRow (Run n) row r = r ≤ row
HasRow (Share n v) m r = Lows 1 r m

pub row_zero : (loss : Loss) (bad : ℕ) → HasRow loss bad 0
row_zero loss bad = grind (arith, common_steps)

pub row_short : (loss : Loss) (bad r : ℕ) → IsLawfulBad loss bad → HasRow loss bad r → r < needed loss
row_short loss bad r h l = grind (arith, common_steps, lows_ones)

pub row_grows : (loss : Loss) (bad r : ℕ) → IsLossRule loss → IsLawfulBad loss bad → HasRow loss bad r → HasRow loss (bad_after loss false bad) (suc r)
row_grows loss bad r some h l = grind (arith, common_steps, row_short, lows_more)

-- at least the last r blocks were good
abbrev pub IsClean : Loss → ℕ → ℕ → Type 0
IsClean (Run n) row r = 1 ≤ r → row ≡ 0
IsClean (Share n v) m r = (i : ℕ) → i ≤ r → i ≤ v → Lows 0 i m

pub clean_zero : (loss : Loss) (bad : ℕ) → IsClean loss bad 0
clean_zero loss bad = grind (arith, common_steps)

pub clean_none : (loss : Loss) (r : ℕ) → IsClean loss 0 r
clean_none loss r = grind (arith, common_steps, lows_zero)

shift_clean : (v m r : ℕ) → ((i : ℕ) → i ≤ r → i ≤ v → Lows 0 i m) → (i : ℕ) → i ≤ suc r → i ≤ v → Lows 0 i ((2 * m + 0) % 2 ^ v)
shift_clean v m r clean i l u = grind (arith, common_steps, lows_more)

pub clean_more : (loss : Loss) (bad r : ℕ) → IsClean loss bad r → IsClean loss (bad_after loss true bad) (suc r)
clean_more (Run n) row r c = λ h. refl
clean_more (Share n v) m r c = shift_clean v m r c

pub clean_is : (loss : Loss) (bad r : ℕ) → IsLawfulBad loss bad → memory loss ≤ r → IsClean loss bad r → bad ≡ 0
clean_is loss bad r h some c = grind (arith, common_steps, lows_none)

-- How many places of one phase of a sound range have an offset.

-- n places, each 26 after the one before, from the first on
abbrev pub every_26 : ℕ → ℕ → List ℕ
every_26 first zero = []
every_26 first (suc n) = first ∷ every_26 (first + 26) n

length_every_26 : (first n : ℕ) → length (every_26 first n) ≡ n
length_every_26 first zero = refl
length_every_26 first (suc n) = ap suc (length_every_26 (first + 26) n)

nth_every_26 : (first n i d : ℕ) → i < n → get_or (every_26 first n) i d ≡ first + 26 * i
nth_every_26 first zero i d h = absurd (omega arith)
nth_every_26 first (suc n) zero d h = omega arith
nth_every_26 first (suc n) (suc i) d h = grind (arith, common_steps, nth_every_26 (first + 26) n i d (omega arith))

every_26_rises : (first n : ℕ) → IsStrictlyIncreasing (every_26 first n)
every_26_rises first n k h = grind (arith, common_steps, length_every_26, nth_every_26)

module _ (b : Signal) (rules : RuleNumbers) (j s p c : ℕ) (sound : IsSound b rules j s p c) where
  -- no more places of another phase than the sequence's have an offset than rivals share one
  pub few_in_phase : (phase : ℕ) → s ≤ phase → phase < s + 26 → phase ≢ p
      → count_by (λ r. is_some (offset_at b r)) (every_26 phase (sound_blocks rules.loss j)) ≤ j
  few_in_phase phase low high other =
      let n : ℕ = sound_blocks rules.loss j in
      let places : List ℕ = every_26 phase n in
      let valid : ℕ → Bool = λ r. is_some (offset_at b r) in
      let f0 = sound.sequence.first in
      let are : All (λ r. (s ≤ r) × (r < s + 26 * n) × ((k : ℕ) → r ≢ p + 26 * k) × (r % 26 ≡ phase % 26)) places =
      λ i d h.
      let within : i < n = omega (arith, h, length_every_26 phase n) in
      let is : get_or places i d ≡ phase + 26 * i = nth_every_26 phase n i d within in
      (omega (arith, is), omega (arith, is, within), λ k e. other (omega (arith, is, e, f0)), omega (arith, is)) in
      let kept = All-filter valid (λ r. (s ≤ r) × (r < s + 26 * n) × ((k : ℕ) → r ≢ p + 26 * k) × (r % 26 ≡ phase % 26)) places are in
      let pass = filter_passes valid places in
      let rivals : All (λ r. IsRival b s (s + 26 * n) p r × (r % 26 ≡ phase % 26)) (filter valid places) =
      λ i d h.
      let one = kept i d h in
      (record { inside = (one.0, one.1); valid = pass i d h; elsewhere = one.2 }, one.3) in
      let most = sound.few (phase % 26) (filter valid places) (IsStrictlyIncreasing-filter valid places (every_26_rises phase n), rivals) in
      omega (arith, most, length-filter valid places)

-- Any two runs meet on a sound.
module _ (b : Signal) (rules : RuleNumbers) where
  -- the state after the next bits from place a
  abbrev after : State → ℕ → ℕ → State
  after s a zero = s
  after s a (suc m) = after (step b rules a s) (a + 1) m

  after_is : (s : State) (a m : ℕ) → (run b rules s a m).0 ≡ after s a m
  after_is s a zero = refl
  after_is s a (suc m) = after_is (step b rules a s) (a + 1) m

  after_more : (s : State) (a m n : ℕ) → after s a (m + n) ≡ after (after s a m) (a + m) n
  after_more s a zero n = rw (add-zero, zero-add) refl
  after_more s a (suc m) n =
      let e : a + suc m ≡ a + 1 + m = omega arith in
      rw (suc-add, e) (after_more (step b rules a s) (a + 1) m n)

  waits : (lock : Lock) (p d : ℕ) → p + d ≤ lock.due → after (Locked lock) p d ≡ Locked lock
  waits lock p zero early = refl
  waits lock p (suc d) early = grind (arith, common_steps, after, step-waiting, waits lock (p + 1) d (omega arith))

  -- how many of the next n blocks of a lock are good
  abbrev good_blocks : ℕ → ℕ → ℕ → ℕ
  good_blocks due num zero = 0
  good_blocks due num (suc n) = cond (has_number b due num) 1 0 + good_blocks (due + 26) (num % 4 + 1) n

  abbrev LostBy : State → ℕ → ℕ → Type 0
  LostBy s a limit = (m : ℕ) × (m ≤ limit) × (after s a m ≡ Searching)

  -- a block that is read with no loss
  next_block : (due num bad f bad2 : ℕ) → history_after_block b rules due num bad ≡ bad2 → are_too_many rules.loss bad2 ≡ false
      → after (Locked (lock_of due num bad f)) due 26 ≡ Locked (lock_after due num bad2 f)
  next_block due num bad f bad2 e h = grind (arith, common_steps, are_too_many, history_after_block, after, step-keeping, lock_of, lock_after, waits)

  later : (s t : State) (a m limit : ℕ) → after s a m ≡ t → LostBy t (a + m) limit → LostBy s a (m + limit)
  later s t a m limit e l = (m + l.0, omega (arith, l.1), after_more s a m l.0 ∙ ap (λ (u : State). after u (a + m) l.0) e ∙ l.2)

  -- a lock with few good blocks is lost: there are as many bad ones in a row as lose it
  loses : IsLossRule rules.loss → (n due num bad f r : ℕ) → IsLawfulBad rules.loss bad → HasRow rules.loss bad r
      → (good_blocks due num n + 1) * needed rules.loss ≤ r + n → LostBy (Locked (lock_of due num bad f)) due (26 * n)
  loses some zero due num bad f r h in_row few = let short = row_short rules.loss bad r h in_row in absurd (omega arith)
  loses some (suc n) due num bad f r h in_row few =
      let limit : 26 * suc n ≡ 26 + 26 * n = omega arith in
      let short : r < needed rules.loss = row_short rules.loss bad r h in_row in
      elim (cases_Bool (has_number b due num)) [
        | inl good ↦
            let next : history_after_block b rules due num bad ≡ bad_after rules.loss true bad = ap (λ (g : Bool). bad_after rules.loss g bad) good in
            let kept = good_keeps rules.loss bad h in
            let count : good_blocks due num (suc n) ≡ 1 + good_blocks (due + 26) (num % 4 + 1) n = rw good refl in
            let fewer : (good_blocks (due + 26) (num % 4 + 1) n + 1) * needed rules.loss ≤ 0 + n = omega (arith, rw count at few) in
            rw limit (later (Locked (lock_of due num bad f)) _ due 26 (26 * n) (next_block due num bad f (bad_after rules.loss true bad) next kept)
            (loses some n (due + 26) (num % 4 + 1) (bad_after rules.loss true bad) (cond (num == 4) 1 f) 0
            (lawful_kept rules.loss bad true h kept) (row_zero rules.loss (bad_after rules.loss true bad)) fewer))
        | inr ill ↦
            let next : history_after_block b rules due num bad ≡ bad_after rules.loss false bad = ap (λ (g : Bool). bad_after rules.loss g bad) ill in
            let count : good_blocks due num (suc n) ≡ 0 + good_blocks (due + 26) (num % 4 + 1) n = rw ill refl in
            let fewer : (good_blocks (due + 26) (num % 4 + 1) n + 1) * needed rules.loss ≤ suc r + n = omega (arith, rw count at few) in
            elim (cases_Bool (are_too_many rules.loss (bad_after rules.loss false bad))) [
              | inl over ↦ (1, omega arith, step-losing b rules (lock_of due num bad f) (ap (are_too_many rules.loss) next ∙ over))
              | inr kept ↦ rw limit (later (Locked (lock_of due num bad f)) _ due 26 (26 * n) (next_block due num bad f (bad_after rules.loss false bad) next kept)
                  (loses some n (due + 26) (num % 4 + 1) (bad_after rules.loss false bad) (cond (num == 4) 1 f) (suc r)
                  (lawful_kept rules.loss bad false h kept) (row_grows rules.loss bad r some h in_row) fewer))
            ]
      ]

  has_number_offset : (i x : ℕ) → has_number b i x ≡ true → (o : Offset) × (offset_at b i ≡ Some o) × (number o ≡ x)
  unfolding has_number
  has_number_offset i x h = grind (arith, common_steps, offset_at, number, eqb-true)

  no_offset : (r : ℕ) → is_some (offset_at b r) ≡ false → acquired b rules r ≡ None
  unfolding acquired
  no_offset r h = grind (arith, common_steps, offset_at, is_some, with_partner, number)

  -- a place acquires where the block before it has the number before
  acquires : (i x y : ℕ) → 1 ≤ rules.reach → has_number b (i + 26) x ≡ true → has_number b i y ≡ true → number_after y 1 ≡ x → acquired b rules (i + 26) ≡ Some x
  unfolding acquired
  acquires i x y reach here before next = grind (arith, common_steps, has_number_offset, has_number_offset (i + 26) x here)

  acquired_number : (i x y : ℕ) → has_number b i y ≡ true → acquired b rules i ≡ Some x → x ≡ y
  unfolding acquired
  acquired_number i x y has e = grind (arith, common_steps, has_number_offset, number, with_partner)

  -- a search locks at the first place that acquires
  finds : (d q x : ℕ) → ((r : ℕ) → q ≤ r → r < q + d → acquired b rules r ≡ None) → acquired b rules (q + d) ≡ Some x
      → after Searching q (d + 1) ≡ Locked (lock_after (q + d) x 0 x)
  finds zero q x none e = let place : q + 0 ≡ q = omega arith in rw place (step-acquiring b rules q x (rw place at e))
  finds (suc d) q x none e =
      let place : q + suc d ≡ q + 1 + d = omega arith in
      let e2 : acquired b rules (q + 1 + d) ≡ Some x = rw (← place) e in
      let count : suc d + 1 ≡ suc (d + 1) = omega arith in
      grind (arith, common_steps, count, after, step-searching, e2, finds d (q + 1) x (λ r l u. none r (omega arith) (omega arith)) e2)

  module _ (p c last : ℕ) (sequence : (k : ℕ) → k ≤ last → has_number b (p + 26 * k) (number_after c k) ≡ true) where
    number_next : (k : ℕ) → number_after c k % 4 + 1 ≡ number_after c (suc k)
    number_next k = omega arith

    -- a lock on the sequence stays, and after enough blocks nothing is left of its bad ones
    stays : (d k bad f r : ℕ) → IsLawfulBad rules.loss bad → IsClean rules.loss bad r → memory rules.loss ≤ r + suc d
        → k + d ≤ last → number_after c (k + d) ≡ 4
        → after (Locked (lock_of (p + 26 * k) (number_after c k) bad f)) (p + 26 * k) (26 * d + 1) ≡ Locked (lock_of (p + 26 * (k + d) + 26) 1 0 1)
    stays zero k bad f r h clean long within four = grind (arith, common_steps, clean_is rules.loss (bad_after rules.loss true bad) (suc r) (lawful_kept rules.loss bad true h (good_keeps rules.loss bad h)) (omega arith) (clean_more rules.loss bad r clean))
    stays (suc d) k bad f r h clean long within four =
        let good = sequence k (omega arith) in
        let next : history_after_block b rules (p + 26 * k) (number_after c k) bad ≡ bad_after rules.loss true bad = ap (λ (g : Bool). bad_after rules.loss g bad) good in
        let kept = good_keeps rules.loss bad h in
        let place : p + 26 * k + 26 ≡ p + 26 * suc k = omega arith in
        let count : 26 * suc d + 1 ≡ 26 + (26 * d + 1) = omega arith in
        let moved : k + suc d ≡ suc k + d = omega arith in
        grind (arith, common_steps, count, moved, after_more, lock_of, number_after, after, next_block, bad_after, kept, number_next, lawful_kept, clean_more, stays d (suc k) (bad_after rules.loss true bad) (cond (number_after c k == 4) 1 f) (suc r) (lawful_kept rules.loss bad true h kept) (clean_more rules.loss bad r clean) (omega arith) (omega arith) (rw (← moved) four))

module _ (b : Signal) (rules : RuleNumbers) (p c last : ℕ) (sequence : (k : ℕ) → k ≤ last → has_number b (p + 26 * k) (number_after c k) ≡ true) where
  -- a search that finds block k of the sequence is between two groups after the last block, which has number 4
  search_joins : (d q k : ℕ) → IsLossRule rules.loss → p + 26 * k ≡ q + d → k ≤ last → number_after c last ≡ 4
      → ((r : ℕ) → q ≤ r → r < q + d → acquired b rules r ≡ None) → acquired b rules (q + d) ≡ Some (number_after c k)
      → after b rules Searching q (p + 26 * last + 1 - q) ≡ Locked (lock_of (p + 26 * last + 26) 1 0 1)
  search_joins d q k loss place within four none found =
      let locked : after b rules Searching q (d + 1) ≡ Locked (lock_after (p + 26 * k) (number_after c k) 0 (number_after c k)) =
      rw place (finds b rules d q (number_after c k) none found) in
      elim (cases_eq k last) [
        | inl same ↦ grind (arith, common_steps, number_after, locked)
        | inr other ↦
            let rest : ℕ = last - suc k in
            let count : p + 26 * last + 1 - q ≡ (d + 1) + (25 + (26 * rest + 1)) = omega (arith, place) in
            let all : suc k + rest ≡ last = omega arith in
            let from : q + (d + 1) ≡ p + 26 * k + 1 = omega (arith, place) in
            let due : p + 26 * k + 26 ≡ p + 26 * suc k = omega arith in
            let next : p + 26 * k + 1 + 25 ≡ p + 26 * suc k = omega arith in
            let f : ℕ = cond (number_after c k == 4) 1 (number_after c k) in
            let lock : Lock = lock_after (p + 26 * k) (number_after c k) 0 (number_after c k) in
            let waited : after b rules (Locked lock) (p + 26 * k + 1) 25 ≡ Locked (lock_of (p + 26 * suc k) (number_after c (suc k)) 0 f) =
            waits b rules lock (p + 26 * k + 1) 25 (omega arith)
            ∙ ap₂ (λ (n m : ℕ). Locked (lock_of n m 0 f)) due (number_next b rules p c last sequence k) in
            let end = stays b rules p c last sequence rest (suc k) 0 f (memory rules.loss) (lawful_none rules.loss loss) (clean_none rules.loss (memory rules.loss)) (omega arith) (omega arith) (rw all four) in
            grind (arith, common_steps, count, after_more, rest, after, locked, from, waited, end, lock_of, all)
      ]

  -- a block of the sequence acquires, where the one before it is known
  seq_acquires : (k : ℕ) → 1 ≤ rules.reach → 1 ≤ k → k ≤ last → acquired b rules (p + 26 * k) ≡ Some (number_after c k)
  seq_acquires k reach low within =
      let j : ℕ = k - 1 in
      let up : k ≡ suc j = omega arith in
      let place : p + 26 * suc j ≡ p + 26 * j + 26 = omega arith in
      let here : has_number b (p + 26 * j + 26) (number_after c (suc j)) ≡ true = rw (← place, ← up) (sequence k within) in
      rw (up, place) (acquires b rules (p + 26 * j) (number_after c (suc j)) (number_after c j) reach here (sequence j (omega arith)) (omega arith))

  -- a search on a sound range that begins before its second block is between two groups after the last block
  search_on : (q : ℕ) → IsLossRule rules.loss → 1 ≤ rules.reach → (1 ≤ c) × (c ≤ 4) → number_after c last ≡ 4 → 1 ≤ last → q ≤ p + 26 * last
      → ((r : ℕ) → q ≤ r → r < p + 26 * last → ((k : ℕ) → r ≢ p + 26 * k) → acquired b rules r ≡ None)
      → after b rules Searching q (p + 26 * last + 1 - q) ≡ Locked (lock_of (p + 26 * last + 26) 1 0 1)
  search_on q loss reach range four some within quiet = elim (cases_lt p q) [
    | inl past ↦
        let k : ℕ = (q - p + 25) / 26 in
        let d : ℕ = p + 26 * k - q in
        let low : 1 ≤ k = omega arith in
        let here : q ≤ p + 26 * k = omega arith in
        let near : p + 26 * k < q + 26 = omega arith in
        search_joins d q k loss (omega arith) (omega arith) four
        (λ r l u. quiet r l (omega arith) (λ j e. absurd (omega arith)))
        (let at : q + d ≡ p + 26 * k = omega arith in rw at (seq_acquires k reach low (omega arith)))
    | inr before ↦ at_case (acquired b rules p) refl before
  ] where
    at_case : (o : Option ℕ) → acquired b rules p ≡ o → q ≤ p → after b rules Searching q (p + 26 * last + 1 - q) ≡ Locked (lock_of (p + 26 * last + 26) 1 0 1)
    at_case (Some x) e before =
        let start : p + 26 * 0 ≡ p = omega arith in
        let has : has_number b p (number_after c 0) ≡ true = rw start at (sequence 0 (omega arith)) in
        let same : x ≡ number_after c 0 = acquired_number b rules p x (number_after c 0) has e in
        let at : q + (p - q) ≡ p = omega arith in
        grind (arith, common_steps, search_joins, same, search_joins (p - q) q 0 loss (omega arith) (omega arith) four (λ r l u. quiet r l (omega arith) (λ j e2. absurd (omega arith))) (rw at (e ∙ ap (λ (n : ℕ). Some n) same)))
    at_case None e before =
        let at : q + (p + 26 - q) ≡ p + 26 * 1 = omega arith in
        search_joins (p + 26 - q) q 1 loss (omega arith) some four
        (λ r l u. elim (cases_eq r p) [ inl same ↦ rw same e | inr other ↦ quiet r l (omega arith) (λ j e2. absurd (omega arith)) ])
        (rw at (seq_acquires 1 reach (omega arith) some))

module _ (b : Signal) (rules : RuleNumbers) where
  -- how many of the next n places of this phase have an offset
  abbrev valid : ℕ → ℕ → ℕ
  valid due n = count_by (λ r. is_some (offset_at b r)) (every_26 due n)

  valid_more : (due n : ℕ) → valid due (suc n) ≡ cond (is_some (offset_at b due)) 1 0 + valid (due + 26) n
  valid_more due n = sum_by-cons (λ r. cond (is_some (offset_at b r)) 1 0) due (every_26 (due + 26) n)

  valid_grows : (n m due : ℕ) → n ≤ m → valid due n ≤ valid due m
  valid_grows zero m due h = omega arith
  valid_grows (suc n) zero due h = absurd (omega arith)
  valid_grows (suc n) (suc m) due h = let l = valid_more due n in let r = valid_more due m in let ih = valid_grows n m (due + 26) (omega arith) in omega (arith, l, r, ih)

  has_is_some : (i x : ℕ) → has_number b i x ≡ true → is_some (offset_at b i) ≡ true
  has_is_some i x h = let o = has_number_offset b rules i x h in ap is_some o.1

  has_one : (i x y : ℕ) → has_number b i x ≡ true → has_number b i y ≡ true → x ≡ y
  has_one i x y h k = grind (arith, common_steps, has_number_offset, number, has_number, has_number_offset b rules i x h, has_number_offset b rules i y k)

  good_le : (n due num : ℕ) → good_blocks b rules due num n ≤ valid due n
  good_le zero due num = omega arith
  good_le (suc n) due num = grind (arith, common_steps, valid_more, has_number, is_some, offset_at, has_is_some, good_blocks, good_le n (due + 26) (num % 4 + 1))

  wrong_none : (p c last : ℕ) → ((k : ℕ) → k ≤ last → has_number b (p + 26 * k) (number_after c k) ≡ true)
      → (n k num : ℕ) → num ≢ number_after c k → 1 ≤ num → num ≤ 4 → k + n ≤ last + 1 → good_blocks b rules (p + 26 * k) num n ≡ 0
  wrong_none p c last sequence zero k num ne low high within = refl
  wrong_none p c last sequence (suc n) k num ne low high within = grind (arith, common_steps, has_one, wrong_none p c last sequence n (suc k) (num % 4 + 1) (λ e. ne (omega arith)) (omega arith) (omega arith) (omega arith))

  -- from any lawful state, a run on a sound range is between two groups after the last block of number 4
  module _ (j s p c last : ℕ) (sound : IsSound b rules j s p c) (loss : IsLossRule rules.loss) (reach : 1 ≤ rules.reach)
      (four : number_after c last ≡ 4) (in_range : p + 26 * last < s + 26 * sound_blocks rules.loss j) (is_last : s + 26 * sound_blocks rules.loss j ≤ p + 26 * (last + 4)) where
    seq : (k : ℕ) → k ≤ last → has_number b (p + 26 * k) (number_after c k) ≡ true
    seq k h = sound.sequence.numbers k (omega arith)

    quiet : (r : ℕ) → s ≤ r → r < p + 26 * last → ((k : ℕ) → r ≢ p + 26 * k) → acquired b rules r ≡ None
    quiet r l u other = grind (arith, common_steps, is_some, offset_at, valid, no_offset)

    enough : (j + 1) * needed rules.loss + 6 ≤ sound_blocks rules.loss j
    enough = needed_is rules.loss j

    long : memory rules.loss + 6 ≤ sound_blocks rules.loss j
    long = memory_is rules.loss j loss

    searching : (q : ℕ) → s ≤ q → q ≤ p + 26 * last → after b rules Searching q (p + 26 * last + 1 - q) ≡ Locked (lock_of (p + 26 * last + 26) 1 0 1)
    searching q l u = grind (arith, common_steps, search_on, seq, enough, quiet)

    lost_then : (due num bad f : ℕ) → s ≤ due → due ≤ s + 25 → LostBy b rules (Locked (lock_of due num bad f)) due (26 * ((j + 1) * needed rules.loss))
        → after b rules (Locked (lock_of due num bad f)) due (p + 26 * last + 1 - due) ≡ Locked (lock_of (p + 26 * last + 26) 1 0 1)
    lost_then due num bad f l u lost = grind (arith, common_steps, searching, after_more b rules (Locked (lock_of due num bad f)) due lost.0 (p + 26 * last + 1 - (due + lost.0)))

    from_due : (due num bad f : ℕ) → s ≤ due → due ≤ s + 25 → IsLawfulBad rules.loss bad → 1 ≤ num → num ≤ 4
        → after b rules (Locked (lock_of due num bad f)) due (p + 26 * last + 1 - due) ≡ Locked (lock_of (p + 26 * last + 26) 1 0 1)
    from_due due num bad f l u few low high =
        let f0 = sound.sequence.first in
        elim (cases_eq due p) [
          | inl same ↦
              let start : p + 26 * 0 ≡ due = omega (arith, same) in
              elim (cases_eq num (number_after c 0)) [
                | inl right ↦
                    let count : p + 26 * last + 1 - due ≡ 26 * last + 1 = omega (arith, same) in
                    let zero_last : 0 + last ≡ last = omega arith in
                    rw (count, ← start, right) (rw zero_last at (stays b rules p c last seq last 0 bad f 0 few (clean_zero rules.loss bad) (omega (arith, f0, long)) (omega arith) (rw zero_last four)))
                | inr wrong ↦
                    let none : good_blocks b rules due num ((j + 1) * needed rules.loss) ≡ 0 =
                    rw start at (wrong_none p c last seq ((j + 1) * needed rules.loss) 0 num wrong low high (omega (arith, f0, enough))) in
                    lost_then due num bad f l u (loses b rules loss ((j + 1) * needed rules.loss) due num bad f 0 few (row_zero rules.loss bad) (rw none (omega arith)))
              ]
          | inr other ↦
              let count = good_le ((j + 1) * needed rules.loss) due num in
              let grows = valid_grows ((j + 1) * needed rules.loss) (sound_blocks rules.loss j) due (omega (arith, enough)) in
              let at_most = few_in_phase b rules j s p c sound due l (omega arith) other in
              let g : good_blocks b rules due num ((j + 1) * needed rules.loss) ≤ j = omega (arith, count, grows, at_most) in
              lost_then due num bad f l u (loses b rules loss ((j + 1) * needed rules.loss) due num bad f 0 few (row_zero rules.loss bad) (let g1 : good_blocks b rules due num ((j + 1) * needed rules.loss) + 1 ≤ j + 1 = omega (arith, g) in omega (arith, mul-le-mul_right (needed rules.loss) g1)))
        ]

    pub converges : (t : State) → IsLawful rules s t → after b rules t s (p + 26 * last + 1 - s) ≡ Locked (lock_of (p + 26 * last + 26) 1 0 1)
    converges Searching lawful = let f0 = sound.sequence.first in searching s (omega arith) (omega (arith, f0, enough))
    converges (Locked lock) lawful =
        let record { due = due; number = num; bad = bad; first = f } = lock in
        let f0 = sound.sequence.first in
        let soon = lawful.soon in
        let few : IsLawfulBad rules.loss bad = lawful.few_bad in
        let range : (1 ≤ num) × (num ≤ 4) = ⊎_elim (λ o. (omega (arith, o), omega (arith, o))) (λ o. (omega (arith, o), omega (arith, o))) lawful.in_order in
        let d : ℕ = due - s in
        let place : s + d ≡ due = omega (arith, soon) in
        let count : p + 26 * last + 1 - s ≡ d + (p + 26 * last + 1 - due) = omega (arith, soon, f0, enough) in
        let waited : after b rules (Locked lock) s d ≡ Locked lock = waits b rules lock s d (omega (arith, soon)) in
        grind (arith, common_steps, count, after_more, after, waited, from_due, soon, few, range.0, range.1)

-- the last block of number 4 in a sequence
last_four : (s p c n : ℕ) → s ≤ p → p < s + 26 → 1 ≤ c → c ≤ 4 → 6 ≤ n
    → (last : ℕ) × (number_after c last ≡ 4) × (p + 26 * last < s + 26 * n) × (s + 26 * n ≤ p + 26 * (last + 4))
last_four s p c n l u low high some =
    let blocks : ℕ = (s + 26 * n - p + 25) / 26 in
    (blocks - 1 - ((c - 1 + (blocks - 1)) % 4 + 1) % 4, omega arith, omega arith, omega arith)

pub sound_ranges_have_fours : SoundRangesHaveFours
sound_ranges_have_fours b rules j s p c sound = grind (arith, common_steps, last_four s p c (sound_blocks rules.loss j) sound.sequence.first.0 sound.sequence.first.1 sound.number.0 sound.number.1 (omega (arith, needed_is rules.loss j)))

-- the range ends before the next block of number 4
ends_soon : (s to p c last : ℕ) (b : Signal) → IsLastFour b s to p c last → to ≤ p + 26 * (last + 4)
ends_soon s to p c last b four = elim (cases_lt (p + 26 * (last + 4)) to) [
  | inl within ↦
      let number = four.number in
      let next : number_after c (last + 4) ≡ 4 = omega (arith, number) in
      absurd (omega (arith, four.final (last + 4) within next))
  | inr past ↦ past
]

pub runs_converge : RunsConverge
runs_converge b rules loss reach s to t lawful j p c last sound four ends = grind (arith, common_steps, ends_soon s (s + 26 * sound_blocks rules.loss j) p c last b four, after_is b rules t s (p + 26 * last + 1 - s), converges b rules j s p c last sound loss reach four.number four.inside (ends_soon s (s + 26 * sound_blocks rules.loss j) p c last b four) t lawful)
