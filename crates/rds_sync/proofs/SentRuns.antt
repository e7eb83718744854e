-- A group that was sent is read as it was sent, where its blocks are damaged by no more than a burst each.
use Rattle.rds_sync.proofs.Names.{common_steps, ◌≡◌, ◌≢◌, ℕ, zero, suc, ◌-◌, ◌*◌, ◌≤◌, [], ◌∷◌, Option, Some, Bool, false, refl, sym, ap, ◌∙◌, arith, inl, inr, ◌⊎◌, get_or, bit_xor, bit_at, xor_zero_r, count_leading_zeros, count_trailing_zeros, if◌then◌else◌, nat_le, ◌==◌, cases_eq, ne_eqb, cases_lt, le-leb, lt-leb, Offset, A, B, C, Cx, D, Wanted, OnlyC, OnlyCx, Either, Reading, IsBurst, burst_length, number, reading, offset_by_version, third_offset, Signal, reading_heard, reading_at, Block, Missing, Read, Version, VA, VB, Unknown, version_of_offset, first_known, block_at, group_of, wanted_beside, version, in_conflict, info_of, type_in, version_of_bit, IsHeardFrom, block_sent, GroupsAreCorrected, Loss, ◌+◌, ◌<◌, List, ◌++◌, length, None, true, subst, append-nil, flat_map, list_any, range_with_len, word, offset_of, rem, length_of, offset_heard, offset_at, GroupOf, Item, Acquired, Group, State, Searching, Locked, Totals, acquired, has_number, has_partner, is_in_step, plus, group, outcome_of, was_valid, good_at, IsLossRule, are_too_many, bad_after, report_items, RuleNumbers, GroupIsHeard, AreHeard, group_sent, items_sent, SentGroup, four_damages, AreHeardDamaged, items_damaged, bad_after_blocks, KeepLock, SentGroupsAreListed, LockedGroupsAreListed, DamagedGroupsAreListed, SoundSignalIsDecoded, run, items_of_end, lock_of, totals_of, is_valid, map, length-map}
use Rattle.rds_sync.proofs.{GroupBlocks.block_at-read, GroupBlocks.block_at-missing, GroupBlocks.blocks_at-read, GroupBlocks.group-blocks, Converge.good_keeps, Converge.runs_converge, HeardLemmas.outcomes, HeardLemmas.good-at, HeardLemmas.off-heard, WholeGroupLemmas.all-four, WholeGroupLemmas.good-in, WholeGroupLemmas.kept-each, WholeGroupLemmas.whole_group, RunLemmas.acquired_place, RunLemmas.acquired-some, RunLemmas.run-append, RunLemmas.run_places, LossLemmas.lawful_none, LossLemmas.none-kept, TotalsLemmas.valid_is, TotalsLemmas.totals_of_append, TotalsLemmas.same_counts, RunIsReport.run_is_report}
use Rattle.rds_code.specs.Correction.{alone, version_burst, ReadsAsSent, CorrectsBurst, CorrectsThird}

-- the laws of the code that this uses
pub record CodeLaws : Type 0 where
  pub sent : ReadsAsSent
  pub burst : CorrectsBurst
  pub third : CorrectsThird

-- the exceptional burst is five bits long
version_long : burst_length version_burst ≡ 5
unfolding count_leading_zeros count_trailing_zeros
version_long = refl

module _ (laws : CodeLaws) (b : Signal) where
  -- the reading of a window that is heard
  read_heard : (limit place info x : ℕ) (o : Offset) (e : ℕ) (wanted : Wanted) (h : IsHeardFrom b limit place info o e)
      → reading_at b place x wanted limit ≡ reading (bit_xor h.sent e) x wanted limit
  read_heard limit place info x o e wanted h = ap (λ (w : Option ℕ). reading_heard w x wanted limit) h.heard_is

  read_undamaged : (limit place info : ℕ) (o : Offset) (wanted : Wanted) → IsHeardFrom b limit place info o 0 → Read (reading_at b place (number o) wanted limit) ≡ block_sent o info 0
  read_undamaged limit place info o wanted h = grind (arith, common_steps, read_heard, number, reading, xor_zero_r)

  some_burst : (limit e : ℕ) → (suc e ≡ 0) ⊎ IsBurst limit (suc e) → IsBurst limit (suc e)
  some_burst limit e h = grind (arith, common_steps)

  -- block 1, 2 or 4
  block_read : (limit place info : ℕ) (o : Offset) (e : ℕ) (wanted : Wanted) → number o ≢ 3 → limit ≤ 5 → IsHeardFrom b limit place info o e
      → Read (reading_at b place (number o) wanted limit) ≡ block_sent o info e
  block_read limit place info o zero wanted other few h = read_undamaged limit place info o wanted h
  block_read limit place info o (suc e) wanted other few h =
      ap (λ (r : Reading). Read r) (read_heard limit place info (number o) o (suc e) wanted h
      ∙ laws.burst h.sent info o wanted limit (suc e) h.block other few (some_burst limit e h.damage))

  -- block 3, if only its own offset is wanted
  third_read : (limit place info : ℕ) (o : Offset) (e : ℕ) → number o ≡ 3 → limit ≤ 5 → (limit ≡ 5 → e ≢ version_burst) → IsHeardFrom b limit place info o e
      → Read (reading_at b place 3 (alone o) limit) ≡ block_sent o info e
  third_read limit place info o zero own few no_version_burst h = grind (arith, common_steps, reading_at, alone, read_undamaged)
  third_read limit place info o (suc e) own few no_version_burst h =
      let burst = some_burst limit e h.damage in
      let other : suc e ≢ version_burst = λ same. elim (cases_eq limit 5) [
        | inl five ↦ no_version_burst five same
        | inr less ↦ absurd (omega (arith, burst.short, ap burst_length same, version_long, less, few))
      ] in
      ap (λ (r : Reading). Read r) (read_heard limit place info 3 o (suc e) (alone o) h
      ∙ laws.third h.sent info o limit (suc e) h.block own few burst other)

-- the version bit says the version, and the offset of block 3
module _ (info : ℕ) where
  abbrev by_bit : ℕ → Version
  by_bit n = if n == 0 then VA else VB

  record Says (v : Version) (o : Offset) : Type 0 where
    pub bit : version_of_bit info ≡ v
    pub offset : third_offset info ≡ o

  says_b : (n : ℕ) → bit_at info 11 ≡ suc n → Says VB Cx
  says_b n h = record { bit = ap by_bit h ∙ ap (λ (t : Bool). if t then VA else VB) (ne_eqb (suc n) 0 (λ no. absurd (omega (arith, no)))); offset = ap offset_by_version h }

  says : Says VA C ⊎ Says VB Cx
  says = grind (arith, common_steps, bit_at, says_b)

  pub third_number : number (third_offset info) ≡ 3
  third_number = elim says [ inl a ↦ ap number a.offset | inr b ↦ ap number b.offset ]

  abbrev wanted_by : Version → Wanted
  wanted_by v = elim v as (λ _. Wanted) [ VA ↦ OnlyC | VB ↦ OnlyCx | Unknown ↦ Either ]

  -- the offset of block 3 that block 2 allows
  wanted_is : (e : ℕ) → wanted_beside (block_sent B info e) ≡ alone (third_offset info)
  wanted_is e = grind (arith, common_steps, says, wanted_by, alone, wanted_beside, block_sent, version_of_bit)

  known : (v : Version) → first_known (version_of_bit info) v ≡ version_of_bit info
  known v = elim says [ inl a ↦ ap (λ (w : Version). first_known w v) a.bit ∙ sym a.bit | inr b ↦ ap (λ (w : Version). first_known w v) b.bit ∙ sym b.bit ]

  version_is : (third d e : ℕ) → version (block_sent B info d) (block_sent (third_offset info) third e) ≡ version_of_bit info
  version_is third d e = grind (arith, common_steps, known, version_of_offset, third_offset)

  agreed : (third d e : ℕ) → in_conflict (block_sent B info d) (block_sent (third_offset info) third e) ≡ false
  agreed third d e = grind (arith, common_steps)

pub info_is : (o : Offset) (info e : ℕ) → info_of (block_sent o info e) ≡ Some info
info_is o info e = grind (arith, common_steps)

-- a group of blocks that were sent
group_of_sent : (place : ℕ) (one : Block) (w1 w2 w3 e1 e2 e3 : ℕ)
    → group_of place (one ∷ block_sent B w1 e1 ∷ block_sent (third_offset w1) w2 e2 ∷ block_sent D w3 e3 ∷ [])
    ≡ record {
      place = place;
      blocks = one ∷ block_sent B w1 e1 ∷ block_sent (third_offset w1) w2 e2 ∷ block_sent D w3 e3 ∷ [];
      kind = Some (type_in w1);
      version = version_of_bit w1;
      conflict = false;
    }
group_of_sent place one w1 w2 w3 e1 e2 e3 = rw (info_is B w1 e1, version_is w1 w2 e1 e2, agreed w1 w2 e1 e2) refl

pub groups_are_corrected : CodeLaws → GroupsAreCorrected
groups_are_corrected laws b rules first p words damages low high few h =
    let w1 : ℕ = get_or words 1 0 in
    let e1 : ℕ = get_or damages 1 0 in
    let limit : ℕ = rules.burst in
    let block : ℕ → Wanted → Block = λ y wanted. block_at b rules first 4 p wanted y in
    let first_or : Bool → Block = λ t. if t then block_sent A (get_or words 0 0) (get_or damages 0 0) else Missing in
    let one : (if nat_le first 1 then block_sent A (get_or words 0 0) (get_or damages 0 0) else Missing) ≡ block 1 Either = elim (cases_lt 1 first) [
      | inl late ↦ ap first_or (lt-leb first 1 late) ∙ sym (block_at-missing b rules first 4 p Either 1 (inl late))
      | inr early ↦ ap first_or (le-leb first 1 early) ∙ sym (block_at-read b rules first 4 p Either 1 early (omega arith) ∙ block_read laws b limit (p - 78) (get_or words 0 0) A (get_or damages 0 0) Either (λ no. absurd (omega (arith, no))) few (h.one early))
    ] in
    let two : block_sent B w1 e1 ≡ block 2 Either =
    sym (block_at-read b rules first 4 p Either 2 high (omega arith) ∙ block_read laws b limit (p - 52) w1 B e1 Either (λ no. absurd (omega (arith, no))) few h.two) in
    let three : block_sent (third_offset w1) (get_or words 2 0) (get_or damages 2 0) ≡ block 3 (wanted_beside (block_sent B w1 e1)) =
    sym (block_at-read b rules first 4 p (wanted_beside (block_sent B w1 e1)) 3 (omega (arith, high)) (omega arith)
    ∙ ap (λ (wanted : Wanted). Read (reading_at b (p - 26) 3 wanted limit)) (wanted_is w1 e1)
    ∙ third_read laws b limit (p - 26) (get_or words 2 0) (third_offset w1) (get_or damages 2 0) (third_number w1) few h.no_version_burst h.three) in
    let last : p - 0 ≡ p = omega arith in
    let four : block_sent D (get_or words 3 0) (get_or damages 3 0) ≡ block 4 Either =
    sym (block_at-read b rules first 4 p Either 4 (omega (arith, high)) (omega arith)
    ∙ ap (λ (i : ℕ). Read (reading_at b i 4 Either limit)) last
    ∙ block_read laws b limit p (get_or words 3 0) D (get_or damages 3 0) Either (λ no. absurd (omega (arith, no))) few h.four) in
    sym (group-blocks b rules first 4 p _ (blocks_at-read b rules first 4 p _ _ _ _ one two three four))
    ∙ group_of_sent (p - 26 * (4 - first) - 25) _ w1 (get_or words 2 0) (get_or words 3 0) e1 (get_or damages 2 0) (get_or damages 3 0)

-- The items of a run over groups that were sent: in a lock, and from the first bit of a recording on.

-- ---- blocks as they were sent

word_offset : (o : Offset) → offset_of (word o) ≡ Some o
word_offset o = grind (arith, common_steps)

module _ (b : Signal) where
  heard_offset : (limit place info : ℕ) (o : Offset) (h : IsHeardFrom b limit place info o 0) → offset_of (rem (bit_xor h.sent 0)) ≡ Some o
  heard_offset limit place info o h = ap (λ (w : ℕ). offset_of (rem w)) (xor_zero_r h.sent) ∙ ap offset_of h.block.remainder ∙ word_offset o

  sent_off : (limit place info : ℕ) (o : Offset) → 25 ≤ place → IsHeardFrom b limit place info o 0 → offset_at b place ≡ Some o
  sent_off limit place info o late h = off-heard b place late ∙ ap offset_heard h.heard_is ∙ heard_offset limit place info o h

  widened : (limit place info : ℕ) (o : Offset) → IsHeardFrom b 0 place info o 0 → IsHeardFrom b limit place info o 0
  widened limit place info o h = record { sent = h.sent; block = h.block; heard_is = h.heard_is; damage = inl refl }

  -- a group without damage is one within each limit
  wider : (limit first p : ℕ) (words : List ℕ) → 1 ≤ first → GroupIsHeard b 0 1 p words [] → GroupIsHeard b limit first p words []
  wider limit first p words low h = record {
    one = λ early. widened limit _ _ A (h.one (omega arith));
    two = widened limit _ _ B h.two;
    three = widened limit _ _ (third_offset _) h.three;
    four = widened limit _ _ D h.four;
    no_version_burst = λ five same. absurd (omega (arith, same));
  }

-- ---- the run

module _ (b : Signal) (rules : RuleNumbers) where
  -- a run over m bits and then n, each as a state and items
  pub run-then : (s t u : State) (is js : List Item) (a m n : ℕ) → run b rules s a m ≡ (t, is) → run b rules t (a + m) n ≡ (u, js) → run b rules s a (m + n) ≡ (u, is ++ js)
  run-then s t u is js a m n first rest = grind (arith, common_steps, run-append, run)

  any_first : (p : ℕ → Bool) (n : ℕ) → 1 ≤ n → p 1 ≡ true → list_any p (range_with_len 1 n) ≡ true
  any_first p n some h = grind (arith, common_steps, list_any, range_with_len)

  -- nothing acquires before place 51
  quiet : (i : ℕ) → 0 ≤ i → i < 51 → acquired b rules i ≡ None
  quiet i low early = grind (arith, common_steps, acquired, acquired_place)

-- ---- with damage

-- a block without a bit error is valid
pub good_sent : (o : Offset) (info e : ℕ) → is_valid (block_sent o info e) ≡ (e == 0)
good_sent o info e = grind (arith, common_steps, ne_eqb)

good_outcome : (o : Offset) (info e : ℕ) → was_valid (outcome_of (block_sent o info e)) ≡ (e == 0)
good_outcome o info e = sym (valid_is (block_sent o info e)) ∙ good_sent o info e

module _ (laws : CodeLaws) (b : Signal) (rules : RuleNumbers) (few : rules.burst ≤ 5) where
  abbrev After : ℕ → ℕ → ℕ
  After e bad = bad_after rules.loss (e == 0) bad

  -- one whole group
  damaged_group : (place bad : ℕ) (words : List ℕ) (damages : List ℕ) → GroupIsHeard b rules.burst 1 (place + 103) words damages
      → (keep : KeepLock rules.loss bad (get_or damages 0 0 ∷ get_or damages 1 0 ∷ get_or damages 2 0 ∷ get_or damages 3 0 ∷ []))
      → run b rules (Locked (lock_of (place + 25) 1 bad 1)) place 104
      ≡ (
        Locked (lock_of (place + 104 + 25) 1 (After (get_or damages 3 0) (After (get_or damages 2 0) (After (get_or damages 1 0) (After (get_or damages 0 0) bad)))) 1),
        Group (group_sent 1 place words damages) ∷ [],
      )
  damaged_group place bad words damages h keep =
      let due : ℕ = place + 25 in
      let e0 : ℕ = get_or damages 0 0 in
      let e1 : ℕ = get_or damages 1 0 in
      let e2 : ℕ = get_or damages 2 0 in
      let e3 : ℕ = get_or damages 3 0 in
      let w1 : ℕ = get_or words 1 0 in
      let one : ℕ = After e0 bad in
      let two : ℕ = After e1 one in
      let three : ℕ = After e2 two in
      let four : ℕ = After e3 three in
      let at4 : place + 103 ≡ due + 78 = omega arith in
      let at : place + 103 - 26 * (4 - 1) - 25 ≡ place = omega arith in
      let own : group b rules 1 4 (due + 78) ≡ group_sent 1 place words damages =
      ap (λ (q : ℕ). group b rules 1 4 q) (sym at4)
      ∙ groups_are_corrected laws b rules 1 (place + 103) words damages (omega arith) (omega arith) few h
      ∙ ap (λ (q : ℕ). group_sent 1 q words damages) at in
      let bs : List Block = (group b rules 1 4 (due + 78)).blocks in
      let are : bs ≡ block_sent A (get_or words 0 0) e0 ∷ block_sent B w1 e1 ∷ block_sent (third_offset w1) (get_or words 2 0) e2 ∷ block_sent D (get_or words 3 0) e3 ∷ [] =
      ap (λ (g : GroupOf). g.blocks) own in
      let good : (y : ℕ) (o : Offset) (info e : ℕ) → get_or (block_sent A (get_or words 0 0) e0 ∷ block_sent B w1 e1 ∷ block_sent (third_offset w1) (get_or words 2 0) e2 ∷ block_sent D (get_or words 3 0) e3 ∷ []) (y - 1) Missing ≡ block_sent o info e
      → (before : ℕ) → After e before ≡ bad_after rules.loss (good_at (map outcome_of bs) y) before =
      λ y o info e is before. ap (λ (t : Bool). bad_after rules.loss t before) (sym (good_sent o info e) ∙ good-in are y _ is) in
      let first = good 1 _ _ e0 refl bad in
      let second = good 2 _ _ e1 refl one in
      let third = good 3 _ _ e2 refl two in
      let fourth = good 4 _ _ e3 refl three in
      let fewer = kept-each rules.loss (map outcome_of bs) bad first second third fourth keep.0 keep.1.0 keep.1.1.0 keep.1.1.1.0 in
      let total = all-four rules.loss (map outcome_of bs) bad first second third fourth in
      let back : due - 25 ≡ place = omega arith in
      let next : due + 104 ≡ place + 104 + 25 = omega arith in
      grind (arith, common_steps, run, lock_of, due, back, whole_group, fewer, group, total, four, own)

  -- and any number of them
  pub damaged_listed : (place bad : ℕ) (groups : List SentGroup) → AreHeardDamaged b rules.burst place groups → KeepLock rules.loss bad (flat_map four_damages groups)
      → run b rules (Locked (lock_of (place + 25) 1 bad 1)) place (104 * length groups)
      ≡ (Locked (lock_of (place + 104 * length groups + 25) 1 (bad_after_blocks rules.loss bad (flat_map four_damages groups)) 1), items_damaged place groups)
  damaged_listed place bad [] h keep = grind (arith, common_steps, lock_of)
  damaged_listed place bad (g ∷ groups) h keep =
      let n : ℕ = length groups in
      let bits : 104 * suc n ≡ 104 + 104 * n = omega arith in
      let end : place + 104 + 104 * n + 25 ≡ place + 104 * suc n + 25 = omega arith in
      ap (λ (m : ℕ). run b rules (Locked (lock_of (place + 25) 1 bad 1)) place m) bits
      ∙ run-then b rules (Locked (lock_of (place + 25) 1 bad 1)) _ _ _ _ place 104 (104 * n)
      (damaged_group place bad g.words g.damages h.0 (keep.0, (keep.1.0, (keep.1.1.0, (keep.1.1.1.0, tt)))))
      (damaged_listed (place + 104) _ groups h.1 keep.1.1.1.1)
      ∙ ap (λ (q : ℕ). (Locked (lock_of q 1 (bad_after_blocks rules.loss bad (flat_map four_damages (g ∷ groups))) 1), items_damaged place (g ∷ groups))) end

pub locked_groups_are_listed : CodeLaws → LockedGroupsAreListed
locked_groups_are_listed laws b rules few place bad groups h keep = damaged_listed laws b rules few place bad groups h keep

pub sound_signal_is_decoded : CodeLaws → SoundSignalIsDecoded
sound_signal_is_decoded laws b rules loss reach few s t lawful j p c last sound four groups h keep = grind (arith, common_steps, damaged_listed, runs_converge b rules loss reach s (p + 26 * last + 1) t lawful j p c last sound four refl, run_places b rules t s (p + 26 * last + 1) ((p + 26 * last + 1) + 104 * (length groups)) (omega (arith, sound.sequence.first)) (omega arith))

-- the first group of a recording, whose blocks 1 and 2 have no damage
module _ (laws : CodeLaws) (b : Signal) (rules : RuleNumbers) (few : rules.burst ≤ 5) (reach : 1 ≤ rules.reach) (words damages : List ℕ)
    (h : GroupIsHeard b rules.burst 1 103 words damages) (whole1 : get_or damages 0 0 ≡ 0) (whole2 : get_or damages 1 0 ≡ 0) where
  abbrev limit : ℕ
  limit = rules.burst

  acquires_damaged : acquired b rules 51 ≡ Some 2
  acquires_damaged =
      let first : IsHeardFrom b limit 25 (get_or words 0 0) A 0 = subst (λ (e : ℕ). IsHeardFrom b limit 25 (get_or words 0 0) A e) whole1 (h.one (omega arith)) in
      let second : IsHeardFrom b limit 51 (get_or words 1 0) B 0 = subst (λ (e : ℕ). IsHeardFrom b limit 51 (get_or words 1 0) B e) whole2 h.two in
      let partner : has_partner b 51 2 1 ≡ true = ap (λ (w : Option Offset). is_in_step w 2 1) (sent_off b limit 25 _ A (omega arith) first) in
      acquired-some b rules 51 B (sent_off b limit 51 _ B (omega arith) second)
      ∙ ap (λ (t : Bool). elim t as (λ _. Option ℕ) [ true ↦ Some 2 | false ↦ None ]) (any_first b rules (has_partner b 51 2) rules.reach reach partner)

  own_first : group b rules 2 4 103 ≡ group_sent 2 26 words damages
  own_first = groups_are_corrected laws b rules 2 103 words damages (omega arith) (omega arith) few record { one = λ no. absurd (omega (arith, no)); two = h.two; three = h.three; four = h.four; no_version_burst = h.no_version_burst }

  third_good : has_number b 77 3 ≡ (get_or damages 2 0 == 0)
  third_good = sym (good-at b rules 2 4 103 3 (omega arith) (omega arith) (omega arith) (omega arith) (omega arith)) ∙ ap (λ (g : GroupOf). good_at (outcomes g) 3) own_first ∙ good_outcome _ _ (get_or damages 2 0)

  fourth_good : has_number b 103 4 ≡ (get_or damages 3 0 == 0)
  fourth_good = sym (good-at b rules 2 4 103 4 (omega arith) (omega arith) (omega arith) (omega arith) (omega arith)) ∙ ap (λ (g : GroupOf). good_at (outcomes g) 4) own_first ∙ good_outcome _ _ (get_or damages 3 0)

  abbrev bad3 : ℕ
  bad3 = bad_after rules.loss (get_or damages 2 0 == 0) 0

  abbrev bad4 : ℕ
  bad4 = bad_after rules.loss (get_or damages 3 0 == 0) bad3

  first_damaged : are_too_many rules.loss bad3 ≡ false → are_too_many rules.loss bad4 ≡ false
      → run b rules Searching 0 104 ≡ (Locked (lock_of 129 1 bad4 1), Acquired 51 2 ∷ Group (group_sent 2 26 words damages) ∷ [])
  first_damaged keep3 keep4 = grind (arith, common_steps, acquires_damaged, quiet, third_good, fourth_good, own_first)

pub damaged_groups_are_listed : CodeLaws → DamagedGroupsAreListed
damaged_groups_are_listed laws b rules g groups loss reach few long h whole1 whole2 keep =
    let n : ℕ = length groups in
    let items : List Item = Acquired 51 2 ∷ Group (group_sent 2 26 g.words g.damages) ∷ items_damaged 104 groups in
    let first = first_damaged laws b rules few reach g.words g.damages h.0 whole1 whole2 keep.0 keep.1.0 in
    let rest = damaged_listed laws b rules few 104 _ groups h.1 keep.1.1 in
    let bits : 104 + 104 * n ≡ length_of b = omega (arith, long) in
    let whole = ap (λ (m : ℕ). run b rules Searching 0 m) (sym bits) ∙ run-then b rules Searching _ _ _ _ 0 104 (104 * n) first rest in
    sym (run_is_report b rules loss) ∙ ap (λ (ends : State × List Item). ends.1 ++ items_of_end b rules ends.0) whole ∙ append-nil items

-- ---- without damage

abbrev pub undamaged : List ℕ → SentGroup
undamaged words = record { words = words; damages = [] }

heard_undamaged : (b : Signal) (limit place : ℕ) (groups : List (List ℕ)) → AreHeard b place groups → AreHeardDamaged b limit place (map undamaged groups)
heard_undamaged b limit place [] h = tt
heard_undamaged b limit place (words ∷ groups) h = (wider b limit 1 (place + 103) words (omega arith) h.0, heard_undamaged b limit (place + 104) groups h.1)

items_undamaged : (place : ℕ) (groups : List (List ℕ)) → items_damaged place (map undamaged groups) ≡ items_sent place groups
items_undamaged place [] = refl
items_undamaged place (words ∷ groups) = ap (λ (is : List Item). Group (group_sent 1 place words []) ∷ is) (items_undamaged (place + 104) groups)

-- no block is bad
module _ (loss : Loss) (is : IsLossRule loss) where
  next_none : (bad : ℕ) → bad ≡ 0 → bad_after loss true bad ≡ 0
  next_none bad none = ap (bad_after loss true) none ∙ none-kept loss

  keeps : (bad : ℕ) → bad ≡ 0 → are_too_many loss (bad_after loss true bad) ≡ false
  keeps bad none = ap (λ (n : ℕ). are_too_many loss (bad_after loss true n)) none ∙ good_keeps loss 0 (lawful_none loss is)

  keep_undamaged : (groups : List (List ℕ)) (bad : ℕ) → bad ≡ 0 → KeepLock loss bad (flat_map four_damages (map undamaged groups))
  keep_undamaged [] bad none = tt
  keep_undamaged (words ∷ groups) bad none =
      let one = next_none bad none in
      let two = next_none _ one in
      let three = next_none _ two in
      (keeps bad none, (keeps _ one, (keeps _ two, (keeps _ three, keep_undamaged groups _ (next_none _ three)))))

-- the totals of whole groups
totals_whole : ℕ → Totals
totals_whole n = record { valid = 4 * n; bursts = 0 ∷ 0 ∷ 0 ∷ 0 ∷ 0 ∷ []; lost = 0; bits = 0; groups = n; complete = n; acquired = 0; losses = 0 }

totals_listed : (place : ℕ) (groups : List (List ℕ)) → totals_of (items_sent place groups) ≡ totals_whole (length groups)
unfolding totals_whole
totals_listed place [] = refl
totals_listed place (words ∷ groups) = grind (arith, common_steps, totals_of_append, group_sent, items_sent, plus, totals_of, same_counts, totals_listed (place + 104) groups)

pub sent_groups_are_listed : CodeLaws → SentGroupsAreListed
unfolding totals_whole
sent_groups_are_listed laws b rules words groups loss reach few long h =
    let one = next_none rules.loss loss 0 refl in
    let report : report_items b rules ≡ Acquired 51 2 ∷ Group (group_sent 2 26 words []) ∷ items_sent 104 groups =
    damaged_groups_are_listed laws b rules (undamaged words) (map undamaged groups) loss reach few (long ∙ ap (λ (n : ℕ). 104 * suc n) (sym (length-map groups undamaged)))
    (heard_undamaged b rules.burst 0 (words ∷ groups) h) refl refl
    (keeps rules.loss loss 0 refl, (keeps rules.loss loss _ one, keep_undamaged rules.loss loss groups _ (next_none rules.loss loss _ one)))
    ∙ ap (λ (is : List Item). Acquired 51 2 ∷ Group (group_sent 2 26 words []) ∷ is) (items_undamaged 104 groups) in (
      report,
      ap totals_of report
          ∙ totals_of_append (Acquired 51 2 ∷ Group (group_sent 2 26 words []) ∷ []) (items_sent 104 groups)
          ∙ ap (plus (totals_of (Acquired 51 2 ∷ Group (group_sent 2 26 words []) ∷ []))) (totals_listed 104 groups)
          ∙ same_counts (omega arith) refl refl refl refl refl refl refl (omega arith) (omega arith) refl refl,
    )

pub ruleset damaged_groups = (locked_groups_are_listed, damaged_groups_are_listed)
