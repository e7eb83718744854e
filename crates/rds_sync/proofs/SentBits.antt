-- The bits of groups that were encoded, and then damaged or not: their windows are the blocks with their damage.
use Rattle.rds_sync.proofs.Names.{common_steps, Signal, AreWords, ◌≡◌, ℕ, zero, suc, ◌+◌, ◌-◌, ◌*◌, ◌/◌, ◌%◌, ◌^◌, ◌<◌, List, [], ◌∷◌, ◌++◌, length, Some, refl, sym, ap, ap₂, subst, ◌∙◌, arith, inl, get_or, take, drop, append-nil, append_assoc, length-append, pow-suc, drop-append_seam, take-append_seam, xor_zero_r, number_from_digits, Offset, A, B, D, IsBlockOf, encoded, third_offset, HasOneBlock, ungapped, heard, touched, window, IsHeardFrom, GroupIsHeard, AreHeard, binary, group_bits, bits_sent, EncodedGroupsAreHeard, EncodedGroupsAreListed, ◌⊎◌, bit_xor, flat_map, xor_lt, IsBurst, SentGroup, AreHeardDamaged, IsCorrectable, AreCorrectable, bits_with_damage, DamagedGroupsAreHeard, DamagedBitsAreDecoded, map, length-map, pow-add, bit_at, bytes_high_first, range_with_len, shr-shr, mod-pow-add, bit_at-suc, bit_at_lowest, packed_bit, bits_of, packed_group, packed_groups, PackedGroupsAreSent, ◌≤◌, Bool, true, false, cond, eqb, lit<, sum_by, count_by, count_ones, count_leading_zeros, count_trailing_zeros, ones-le, mul-suc, ne_eqb, sum_by-cons, burst_length, Block, Missing, Item, Acquired, Group, block_sent, group_sent, items_damaged, four_damages, masks_read, totals_damaged, DamageTellsTotals, DamagedBitsTellTotals, totals_of, sum_blocks, is_valid, is_lost, is_corrected_by, bits_corrected, is_group, is_complete, is_acquired, is_sync_loss}
use Rattle.rds_sync.proofs.{SentRuns.CodeLaws, SentRuns.info_is, SentRuns.damaged_groups_are_listed, SentRuns.sent_groups_are_listed, SentRuns.undamaged, SentRuns.good_sent, TotalsLemmas.same_counts}
use Rattle.std.proofs.lemmas.Int.Digits.{number_push}

pub length-binary : (n w : ℕ) → length (binary n w) ≡ n
unfolding binary
length-binary zero w = refl
length-binary (suc n) w = length-append (binary n (w / 2)) (w % 2 ∷ []) ∙ omega (arith, length-binary n (w / 2))

number_binary : (n w : ℕ) → w < 2 ^ n → number_from_digits 2 (binary n w) ≡ w
unfolding binary
number_binary zero w small = omega (arith, small)
number_binary (suc n) w small = grind (arith, common_steps, number_push, binary, pow-suc, number_binary n (w / 2) (omega (arith, small, pow-suc 2 n)))

window_there : (xs ys : List ℕ) (w : ℕ) → w < 2 ^ 26 → window (xs ++ (binary 26 w ++ ys)) (length xs + 25) ≡ w
unfolding window
window_there xs ys w small = grind (arith, common_steps, binary, number_from_digits, take, drop, drop-append_seam, length-binary, take-append_seam, number_binary)

heard_there : (xs ys : List ℕ) (w : ℕ) → w < 2 ^ 26 → heard (ungapped (xs ++ (binary 26 w ++ ys))) (length xs + 25) ≡ Some w
unfolding heard touched
heard_there xs ys w small = ap (λ (v : ℕ). Some v) (window_there xs ys w small)

longer : (w : ℕ) (zs : List ℕ) (n : ℕ) → length zs ≡ n → length (binary 26 w ++ zs) ≡ 26 + n
longer w zs n e = length-append (binary 26 w) zs ∙ ap₂ (λ (l m : ℕ). l + m) (length-binary 26 w) e

damage_small : (limit e : ℕ) → (e ≡ 0) ⊎ IsBurst limit e → e < 2 ^ 26
damage_small limit e h = grind (arith, common_steps)

group_long : (g : SentGroup) → length (bits_with_damage g) ≡ 104
group_long g = grind (arith, common_steps, get_or, bit_xor, encoded, third_offset, longer)

pub groups_long : (groups : List SentGroup) → length (flat_map bits_with_damage groups) ≡ 104 * length groups
groups_long [] = refl
groups_long (g ∷ groups) = length-append (bits_with_damage g) (flat_map bits_with_damage groups) ∙ omega (arith, group_long g, groups_long groups)

module _ (one : HasOneBlock) (limit : ℕ) where
  block_there : (bits xs ys : List ℕ) (place info : ℕ) (o : Offset) (e : ℕ) → info < 2 ^ 16 → (e ≡ 0) ⊎ IsBurst limit e
      → xs ++ (binary 26 (bit_xor (encoded info o) e) ++ ys) ≡ bits → length xs + 25 ≡ place → IsHeardFrom (ungapped bits) limit place info o e
  block_there bits xs ys place info o e small damage are at =
      let w : ℕ = encoded info o in
      let is : IsBlockOf w info o = (one w info o small).1 refl in record {
        sent = w;
        block = is;
        heard_is = ap₂ (λ (bs : List ℕ) (p : ℕ). heard (ungapped bs) p) (sym are) (sym at) ∙ heard_there xs ys (bit_xor w e) (xor_lt 26 w e is.is_block (damage_small limit e damage));
        damage = damage;
      }

  group_there : (xs ys : List ℕ) (g : SentGroup) → IsCorrectable limit g → GroupIsHeard (ungapped (xs ++ (bits_with_damage g ++ ys))) limit 1 (length xs + 103) g.words g.damages
  group_there xs ys g h =
      let e : ℕ → ℕ = λ y. get_or g.damages y 0 in
      let w : ℕ → ℕ = λ y. get_or g.words y 0 in
      let b0 : List ℕ = binary 26 (bit_xor (encoded (w 0) A) (e 0)) in
      let b1 : List ℕ = binary 26 (bit_xor (encoded (w 1) B) (e 1)) in
      let b2 : List ℕ = binary 26 (bit_xor (encoded (w 2) (third_offset (w 1))) (e 2)) in
      let b3 : List ℕ = binary 26 (bit_xor (encoded (w 3) D) (e 3)) in
      let bits : List ℕ = xs ++ (bits_with_damage g ++ ys) in
      let all : bits_with_damage g ++ ys ≡ b0 ++ (b1 ++ (b2 ++ (b3 ++ ys))) =
      append_assoc b0 (b1 ++ (b2 ++ (b3 ++ []))) ys
      ∙ ap (λ (zs : List ℕ). b0 ++ zs) (append_assoc b1 (b2 ++ (b3 ++ [])) ys ∙ ap (λ (zs : List ℕ). b1 ++ zs) (append_assoc b2 (b3 ++ []) ys ∙ ap (λ (zs : List ℕ). b2 ++ zs) (append_assoc b3 [] ys))) in
      let at0 : xs ++ (b0 ++ (b1 ++ (b2 ++ (b3 ++ ys)))) ≡ bits = ap (λ (zs : List ℕ). xs ++ zs) (sym all) in
      let at1 : (xs ++ b0) ++ (b1 ++ (b2 ++ (b3 ++ ys))) ≡ bits = append_assoc xs b0 _ ∙ at0 in
      let at2 : ((xs ++ b0) ++ b1) ++ (b2 ++ (b3 ++ ys)) ≡ bits = append_assoc (xs ++ b0) b1 _ ∙ at1 in
      let at3 : (((xs ++ b0) ++ b1) ++ b2) ++ (b3 ++ ys) ≡ bits = append_assoc ((xs ++ b0) ++ b1) b2 _ ∙ at2 in
      let l1 : length (xs ++ b0) ≡ length xs + 26 = length-append xs b0 ∙ ap (λ (n : ℕ). length xs + n) (length-binary 26 _) in
      let l2 : length ((xs ++ b0) ++ b1) ≡ length (xs ++ b0) + 26 = length-append (xs ++ b0) b1 ∙ ap (λ (n : ℕ). length (xs ++ b0) + n) (length-binary 26 _) in
      let l3 : length (((xs ++ b0) ++ b1) ++ b2) ≡ length ((xs ++ b0) ++ b1) + 26 = length-append ((xs ++ b0) ++ b1) b2 ∙ ap (λ (n : ℕ). length ((xs ++ b0) ++ b1) + n) (length-binary 26 _) in
      record {
        one = λ _. block_there bits xs _ (length xs + 103 - 78) (w 0) A (e 0) (h.words 0) (h.damages 0) at0 (omega arith);
        two = block_there bits (xs ++ b0) _ (length xs + 103 - 52) (w 1) B (e 1) (h.words 1) (h.damages 1) at1 (omega (arith, l1));
        three = block_there bits ((xs ++ b0) ++ b1) _ (length xs + 103 - 26) (w 2) (third_offset (w 1)) (e 2) (h.words 2) (h.damages 2) at2 (omega (arith, l1, l2));
        four = block_there bits (((xs ++ b0) ++ b1) ++ b2) ys (length xs + 103) (w 3) D (e 3) (h.words 3) (h.damages 3) at3 (omega (arith, l1, l2, l3));
        no_version_burst = h.no_version_burst;
      }

  pub groups_there : (before after : List ℕ) (groups : List SentGroup) → AreCorrectable limit groups
      → AreHeardDamaged (ungapped (before ++ (flat_map bits_with_damage groups ++ after))) limit (length before) groups
  groups_there before after [] h = tt
  groups_there before after (g ∷ groups) h = grind (arith, common_steps, group_long, group_there before (flat_map bits_with_damage groups ++ after) g h.0, groups_there (before ++ (bits_with_damage g)) after groups h.1)

pub damaged_groups_are_heard : HasOneBlock → DamagedGroupsAreHeard
damaged_groups_are_heard one before after limit groups h = groups_there one limit before after groups h

pub damaged_bits_are_decoded : HasOneBlock → CodeLaws → DamagedBitsAreDecoded
damaged_bits_are_decoded one laws rules g groups loss reach few h whole1 whole2 keep = grind (arith, common_steps, damaged_groups_are_listed laws (ungapped (flat_map bits_with_damage (g ∷ groups))) rules g groups loss reach few (groups_long (g ∷ groups)) (subst (λ (zs : List ℕ). AreHeardDamaged (ungapped zs) rules.burst 0 (g ∷ groups)) (append-nil (flat_map bits_with_damage (g ∷ groups))) (groups_there one rules.burst [] [] (g ∷ groups) h)) whole1 whole2 keep)

-- ---- without damage

none : (y : ℕ) → get_or {A = ℕ} [] y 0 ≡ 0
none y = grind (arith, common_steps)

correctable : (groups : List (List ℕ)) → AreWords groups → AreCorrectable 0 (map undamaged groups)
correctable [] small = tt
correctable (words ∷ groups) small =
    (record { words = small 0; damages = λ y. inl (none y); no_version_burst = λ five same. absurd (omega (arith, five)) }, correctable groups (λ k. small (suc k)))

own_bits : (words : List ℕ) → bits_with_damage (undamaged words) ≡ group_bits words
own_bits words = simp xor_zero_r

bits_undamaged : (groups : List (List ℕ)) → flat_map bits_with_damage (map undamaged groups) ≡ bits_sent groups
bits_undamaged [] = refl
bits_undamaged (words ∷ groups) = ap₂ (λ (own rest : List ℕ). own ++ rest) (own_bits words) (bits_undamaged groups)

are_heard : (b : Signal) (place : ℕ) (groups : List (List ℕ)) → AreHeardDamaged b 0 place (map undamaged groups) → AreHeard b place groups
are_heard b place [] h = tt
are_heard b place (words ∷ groups) h = (h.0, are_heard b (place + 104) groups h.1)

pub encoded_groups_are_heard : HasOneBlock → EncodedGroupsAreHeard
encoded_groups_are_heard one before after groups small = grind (arith, common_steps, are_heard, ungapped, undamaged, bits_undamaged, groups_there, correctable)

pub encoded_groups_are_listed : HasOneBlock → CodeLaws → EncodedGroupsAreListed
encoded_groups_are_listed one laws rules words groups loss reach few small =
    let all : List (List ℕ) = words ∷ groups in
    let long : length (bits_sent all) ≡ 104 * length all = ap length (sym (bits_undamaged all)) ∙ groups_long (map undamaged all) ∙ ap (λ (n : ℕ). 104 * n) (length-map all undamaged) in
    sent_groups_are_listed laws (ungapped (bits_sent all)) rules words groups loss reach few long
    (subst (λ (zs : List ℕ). AreHeard (ungapped zs) 0 all) (append-nil (bits_sent all)) (encoded_groups_are_heard one [] [] all small))

pub ruleset encoded_groups = (encoded_groups_are_heard, encoded_groups_are_listed)

pub ruleset damaged_bits = (damaged_groups_are_heard, damaged_bits_are_decoded)

-- The bytes that groups are packed in hold their bits.
binary-split : (a m n : ℕ) → binary (a + m) n ≡ binary a (n / 2 ^ m) ++ binary m n
unfolding binary
binary-split a zero n = grind (arith, common_steps, binary, append-nil)
binary-split a (suc m) n =
    let more : a + suc m ≡ suc (a + m) = omega arith in
    let further : suc m ≡ 1 + m = omega arith in
    grind (arith, common_steps, binary, more, append_assoc, shr-shr, further, binary-split a m (n / 2), append_assoc (binary a (n / 2 / 2 ^ m)) (binary m (n / 2)) (n % 2 ∷ []), shr-shr n 1 m)

binary-mod : (n x : ℕ) → binary n (x % 2 ^ n) ≡ binary n x
unfolding binary
binary-mod zero x = refl
binary-mod (suc n) x = grind (arith, common_steps, mod-pow-add, binary, mod-pow-add x n 1, binary-mod n (x / 2))

power : (k : ℕ) → 256 ^ k ≡ 2 ^ (8 * k)
power zero = refl
power (suc k) = grind (arith, common_steps, pow-suc, pow-add, pow-suc 256 k, pow-add 2 (8 * k) 8, power k)

-- the bits of the lowest k bytes
bytes_are : (k n : ℕ) → flat_map (binary 8) (bytes_high_first k n) ≡ binary (8 * k) n
unfolding binary
bytes_are zero n = refl
bytes_are (suc k) n = grind (arith, common_steps, binary, binary-split, flat_map, bytes_high_first, binary-split 8 (8 * k) n, bytes_are k n, binary-mod, power)

-- ---- the bits of bytes

map_shift : (f g : ℕ → ℕ) (a m : ℕ) → ((i : ℕ) → f (8 + i) ≡ g i) → map f (range_with_len (8 + a) m) ≡ map g (range_with_len a m)
map_shift f g a zero same = refl
map_shift f g a (suc m) same = grind (arith, common_steps, map_shift f g (a + 1) m same)

later_bit : (y : ℕ) (bytes : List ℕ) (i : ℕ) → packed_bit (y ∷ bytes) (8 + i) ≡ packed_bit bytes i
later_bit y bytes i = grind (arith, common_steps, bit_at)

-- the bits of one byte
byte_bits : (y : ℕ) → binary 8 y ≡ bit_at y 7 ∷ bit_at y 6 ∷ bit_at y 5 ∷ bit_at y 4 ∷ bit_at y 3 ∷ bit_at y 2 ∷ bit_at y 1 ∷ bit_at y 0 ∷ []
unfolding binary
byte_bits y = grind (arith, common_steps, bit_at, bit_at-suc, bit_at_lowest)

all_bits : (bytes : List ℕ) → bits_of bytes (8 * length bytes) ≡ flat_map (binary 8) bytes
all_bits [] = refl
all_bits (y ∷ bytes) =
    let more : 8 * suc (length bytes) ≡ suc (suc (suc (suc (suc (suc (suc (suc (8 * length bytes)))))))) = omega arith in
    grind (arith, common_steps, bits_of, more, byte_bits, map_shift, packed_bit, later_bit, all_bits bytes)

-- ---- groups

-- a number in two parts
joined-split : (a n r : ℕ) → r < 2 ^ 26 → binary (a + 26) (n * 2 ^ 26 + r) ≡ binary a n ++ binary 26 r
joined-split a n r small = grind (arith, common_steps, binary-split, binary, binary-mod, binary-split a 26 (n * 2 ^ 26 + r), binary-mod 26 (n * 2 ^ 26 + r))

four_blocks : (a b c d : ℕ) → b < 2 ^ 26 → c < 2 ^ 26 → d < 2 ^ 26
    → binary 104 (((a * 2 ^ 26 + b) * 2 ^ 26 + c) * 2 ^ 26 + d) ≡ binary 26 a ++ (binary 26 b ++ (binary 26 c ++ (binary 26 d ++ [])))
four_blocks a b c d hb hc hd = grind (arith, common_steps, joined-split 78 ((a * 2 ^ 26 + b) * 2 ^ 26 + c) d hd, joined-split 52 (a * 2 ^ 26 + b) c hc, joined-split 26 a b hb)

module _ (one : HasOneBlock) where
  block_small : (info : ℕ) (o : Offset) → info < 2 ^ 16 → encoded info o < 2 ^ 26
  block_small info o small = ((one (encoded info o) info o small).1 refl).is_block

  group_is : (words : List ℕ) → ((y : ℕ) → get_or words y 0 < 2 ^ 16) → flat_map (binary 8) (packed_group words) ≡ group_bits words
  group_is words small = grind (arith, common_steps, bytes_are 13 ((((encoded (get_or words 0 0) A) * 2 ^ 26 + (encoded (get_or words 1 0) B)) * 2 ^ 26 + (encoded (get_or words 2 0) (third_offset (get_or words 1 0)))) * 2 ^ 26 + (encoded (get_or words 3 0) D)), four_blocks (encoded (get_or words 0 0) A) (encoded (get_or words 1 0) B) (encoded (get_or words 2 0) (third_offset (get_or words 1 0))) (encoded (get_or words 3 0) D) (block_small _ B (small 1)) (block_small _ (third_offset (get_or words 1 0)) (small 2)) (block_small _ D (small 3)))

  groups_are : (groups : List (List ℕ)) → AreWords groups → flat_map (binary 8) (packed_groups groups) ≡ bits_sent groups
  groups_are [] small = refl
  groups_are (words ∷ groups) small = grind (arith, common_steps, group_is words (λ y. small 0 y), groups_are groups (λ k y. small (suc k) y))

  pub packed_groups_are_sent : PackedGroupsAreSent
  packed_groups_are_sent groups small = (long groups, all_bits (packed_groups groups) ∙ groups_are groups small) where
    long : (groups : List (List ℕ)) → length (packed_groups groups) ≡ 13 * length groups
    long [] = refl
    long (words ∷ groups) =
        let thirteen : length (packed_group words) ≡ 13 = refl in
        length-append (packed_group words) (packed_groups groups) ∙ omega (arith, thirteen, long groups)

-- The totals of a recording of damaged groups, by the error masks of its blocks.

-- ---- one block

no_span : burst_length 0 ≡ 0
unfolding count_leading_zeros count_trailing_zeros
no_span = refl

corrected_sent : (s : ℕ) → 1 ≤ s → (o : Offset) (info e : ℕ) → is_corrected_by s (block_sent o info e) ≡ eqb (burst_length e) s
corrected_sent s some o info e = grind (arith, common_steps, eqb, no_span, ne_eqb)

lost_sent : (o : Offset) (info e : ℕ) → is_lost (block_sent o info e) ≡ false
lost_sent o info e = grind (arith, common_steps)

bits_sent_are : (o : Offset) (info e : ℕ) → bits_corrected (block_sent o info e) ≡ count_ones e
bits_sent_are o info e = grind (arith, common_steps, ones-le, lit<)

-- ---- all blocks

-- a sum over the blocks of these groups is one over their masks
damaged_sum : (f : Block → ℕ) (h : ℕ → ℕ) → ((o : Offset) (info e : ℕ) → f (block_sent o info e) ≡ h e)
    → (place : ℕ) (groups : List SentGroup) → sum_blocks f (items_damaged place groups) ≡ sum_by h (flat_map four_damages groups)
damaged_sum f h each place [] = refl
damaged_sum f h each place (g ∷ groups) = grind (arith, common_steps, damaged_sum f h each (place + 104) groups)

-- the items of a recording of them
abbrev listed : SentGroup → List SentGroup → List Item
listed g groups = Acquired 51 2 ∷ Group (group_sent 2 26 g.words g.damages) ∷ items_damaged 104 groups

listed_sum : (f : Block → ℕ) (h : ℕ → ℕ) → f Missing ≡ 0 → ((o : Offset) (info e : ℕ) → f (block_sent o info e) ≡ h e)
    → (g : SentGroup) (groups : List SentGroup) → sum_blocks f (listed g groups) ≡ sum_by h (masks_read g groups)
listed_sum f h none each g groups = grind (arith, common_steps, damaged_sum)

listed_count : (p : Block → Bool) (q : ℕ → Bool) → p Missing ≡ false → ((o : Offset) (info e : ℕ) → p (block_sent o info e) ≡ q e)
    → (g : SentGroup) (groups : List SentGroup) → sum_blocks (λ block. cond (p block) 1 0) (listed g groups) ≡ count_by q (masks_read g groups)
listed_count p q none each g groups = grind (arith, common_steps, listed_sum (λ block. cond (p block) 1 0) (λ e. cond (q e) 1 0) (ap (λ (t : Bool). cond t 1 0) none) (λ o info e. ap (λ (t : Bool). cond t 1 0) (each o info e)) g groups)

-- ---- the groups

complete_sent : (place : ℕ) (words damages : List ℕ) → is_complete (Group (group_sent 1 place words damages)) ≡ true
complete_sent place words damages = grind (arith, common_steps, info_is, get_or, third_offset)

-- the items that pass a test, from the groups
counted : (p : Item → Bool) (each : ℕ) → ((place : ℕ) (g : SentGroup) → cond (p (Group (group_sent 1 place g.words g.damages))) 1 0 ≡ each)
    → (place : ℕ) (groups : List SentGroup) → count_by p (items_damaged place groups) ≡ each * length groups
counted p each one place [] = omega arith
counted p each one place (g ∷ groups) = grind (arith, common_steps, sum_by-cons, group_sent, items_damaged, mul-suc, counted p each one (place + 104) groups)

listed_items : (p : Item → Bool) (first second each : ℕ) → cond (p (Acquired 51 2)) 1 0 ≡ first → ((g : SentGroup) → cond (p (Group (group_sent 2 26 g.words g.damages))) 1 0 ≡ second)
    → ((place : ℕ) (g : SentGroup) → cond (p (Group (group_sent 1 place g.words g.damages))) 1 0 ≡ each)
    → (g : SentGroup) (groups : List SentGroup) → count_by p (listed g groups) ≡ first + second + each * length groups
listed_items p first second each lock short whole g groups = grind (arith, common_steps, sum_by-cons, group_sent, items_damaged, counted)

none_lost : (masks : List ℕ) → count_by (λ (e : ℕ). false) masks ≡ 0
none_lost [] = refl
none_lost (e ∷ masks) = none_lost masks

-- ---- the law

listed_totals : (g : SentGroup) (groups : List SentGroup) → totals_of (listed g groups) ≡ totals_damaged (length (g ∷ groups)) (masks_read g groups)
listed_totals g groups =
    same_counts (listed_count is_valid (λ e. eqb e 0) refl good_sent g groups)
    (listed_count (is_corrected_by 1) (λ e. eqb (burst_length e) 1) refl (corrected_sent 1 (omega arith)) g groups)
    (listed_count (is_corrected_by 2) (λ e. eqb (burst_length e) 2) refl (corrected_sent 2 (omega arith)) g groups)
    (listed_count (is_corrected_by 3) (λ e. eqb (burst_length e) 3) refl (corrected_sent 3 (omega arith)) g groups)
    (listed_count (is_corrected_by 4) (λ e. eqb (burst_length e) 4) refl (corrected_sent 4 (omega arith)) g groups)
    (listed_count (is_corrected_by 5) (λ e. eqb (burst_length e) 5) refl (corrected_sent 5 (omega arith)) g groups)
    (listed_count is_lost (λ e. false) refl lost_sent g groups ∙ none_lost (masks_read g groups))
    (listed_sum bits_corrected count_ones refl bits_sent_are g groups)
    (listed_items is_group 0 1 1 refl (λ h. refl) (λ place h. refl) g groups ∙ omega arith)
    (listed_items is_complete 0 0 1 refl (λ h. refl) (λ place h. ap (λ (t : Bool). cond t 1 0) (complete_sent place h.words h.damages)) g groups ∙ omega arith)
    (listed_items is_acquired 1 0 0 refl (λ h. refl) (λ place h. refl) g groups ∙ omega arith)
    (listed_items is_sync_loss 0 0 0 refl (λ h. refl) (λ place h. refl) g groups ∙ omega arith)

pub damage_tells_totals : CodeLaws → DamageTellsTotals
damage_tells_totals laws b rules g groups loss reach few long h whole1 whole2 keep = grind (arith, common_steps, damaged_groups_are_listed laws b rules g groups loss reach few long h whole1 whole2 keep, listed_totals g groups)

pub damaged_bits_tell_totals : HasOneBlock → CodeLaws → DamagedBitsTellTotals
damaged_bits_tell_totals one laws rules g groups loss reach few h whole1 whole2 keep = grind (arith, common_steps, damage_tells_totals laws (ungapped (flat_map bits_with_damage (g ∷ groups))) rules g groups loss reach few (groups_long (g ∷ groups)) (subst (λ (zs : List ℕ). AreHeardDamaged (ungapped zs) rules.burst 0 (g ∷ groups)) (append-nil (flat_map bits_with_damage (g ∷ groups))) (groups_there one rules.burst [] [] (g ∷ groups) h)) whole1 whole2 keep)

pub ruleset totals_of_damage = (damage_tells_totals, damaged_bits_tell_totals)
