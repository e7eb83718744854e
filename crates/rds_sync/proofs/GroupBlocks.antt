-- The blocks of a group: read one by one, counted, and read on by one.
use Rattle.rds_sync.proofs.Names.{common_steps, ◌≡◌, ◌≢◌, ℕ, zero, suc, ◌+◌, ◌-◌, ◌*◌, ◌<◌, ◌≤◌, ◌⊎◌, Option, List, [], ◌∷◌, refl, ap, arith, set, cond, leb, ltb, and-false, le-leb, lt-leb, le-ltb, lt-ltb, cases_lt, ◌&&◌, Wanted, Either, Signal, heard, reading_heard, reading_at, Block, Missing, Read, block_at, blocks_at, group, group_of, wanted_beside, RuleNumbers, Bool, true, false, Some, None, ◌∙◌, is_some, slice_get, Offset, C, Cx, Valid, Corrected, number, Version, Unknown, info_of, version_of_bit, version_of_offset, version_by_bit, first_known, version, differ, in_conflict, are_complete, VA as A, VB as B, GroupRecord as Group, get_or, map, outcome_number, Reading, outcome_of, nibble, word_of_blocks}
use Rattle.rds_sync.specs.GroupLaws.{VersionIsRead, VersionsDiffer, GroupIsRead}
use Rattle.rds_stream.specs.InARow.{four_heard}

module _ (b : Signal) (rules : RuleNumbers) (f x p : ℕ) where
  -- a block that was read is the window heard at its place, read
  pub block_at-read : (wanted : Wanted) (y : ℕ) → f ≤ y → y ≤ x
      → block_at b rules f x p wanted y ≡ Read (reading_at b (p - 26 * (x - y)) y wanted rules.burst)
  block_at-read wanted y low high = rw (le-leb f y low, le-leb y x high) refl

  -- the same, if h was heard there
  pub block_at-heard : (wanted : Wanted) (y : ℕ) (h : Option ℕ) → f ≤ y → y ≤ x → h ≡ heard b (p - 26 * (x - y))
      → Read (reading_heard h y wanted rules.burst) ≡ block_at b rules f x p wanted y
  block_at-heard wanted y h low high same = grind (arith, common_steps, reading_heard, block_at-read)

  -- a block before the first or after the last is missing
  pub block_at-missing : (wanted : Wanted) (y : ℕ) → (y < f) ⊎ (x < y) → block_at b rules f x p wanted y ≡ Missing
  block_at-missing wanted y h = grind (arith, common_steps, lt-leb, and-false, leb)

-- whether block y of the blocks f to x is not the last, as a count
abbrev pub is_earlier : ℕ → ℕ → ℕ → ℕ
is_earlier f x y = cond (leb f y && ltb y x) 1 0

abbrev below : ℕ → ℕ → ℕ
below x y = cond (ltb y x) 1 0

is_earlier-below : (f x y : ℕ) → f ≤ x → is_earlier f x y + below f y ≡ below x y
is_earlier-below f x y order = grind (arith, common_steps, cases_lt, lt-leb, lt-ltb, le-leb, le-ltb)

-- the blocks before the last, counted one by one
pub blocks_before : (f x : ℕ) → 1 ≤ f → f ≤ x → x ≤ 4
    → is_earlier f x 1 + is_earlier f x 2 + is_earlier f x 3 + is_earlier f x 4 ≡ x - f
blocks_before f x from order to = grind (arith, common_steps, is_earlier-below)

-- the blocks of a group, read one by one
pub blocks_at-read : (b : Signal) (rules : RuleNumbers) (f x p : ℕ) (one two three four : Block)
    → one ≡ block_at b rules f x p Either 1 → two ≡ block_at b rules f x p Either 2
    → three ≡ block_at b rules f x p (wanted_beside two) 3 → four ≡ block_at b rules f x p Either 4
    → one ∷ two ∷ three ∷ four ∷ [] ≡ blocks_at b rules f x p
blocks_at-read b rules f x p one two three four is_one is_two is_three is_four = grind (arith, common_steps, block_at, wanted_beside)

-- the group of these blocks
pub group-blocks : (b : Signal) (rules : RuleNumbers) (f x p : ℕ) (blocks : List Block) → blocks ≡ blocks_at b rules f x p
    → group_of (p - 26 * (x - f) - 25) blocks ≡ group b rules f x p
unfolding group
group-blocks b rules f x p blocks are = ap (group_of (p - 26 * (x - f) - 25)) are

-- a block before the last one is that of the group one block shorter
block_at-earlier : (b : Signal) (rules : RuleNumbers) (f x p : ℕ) (wanted : Wanted) (y : ℕ) → y < x
    → block_at b rules f (x - 1) (p - 26) wanted y ≡ block_at b rules f x p wanted y
block_at-earlier b rules f x p wanted y before = grind (arith, common_steps, le-leb)

-- the last block is the window heard at the last place, read
block_at-last : (b : Signal) (rules : RuleNumbers) (f x p : ℕ) (wanted : Wanted) → f ≤ x → Read (reading_at b p x wanted rules.burst) ≡ block_at b rules f x p wanted x
block_at-last b rules f x p wanted from = grind (arith, common_steps, block_at-heard b rules f x p wanted x (heard b p) from (omega arith) (ap (λ (i : ℕ). heard b i) (omega arith)))

-- with the next block read, the blocks are those of the group one block longer
pub blocks_at-next : (b : Signal) (rules : RuleNumbers) (f x p : ℕ) (wanted : Wanted) (block : Block) → 1 ≤ f → f ≤ x → x ≤ 4
    → block ≡ Read (reading_at b p x wanted rules.burst) → (x ≢ 3 → wanted ≡ Either)
    → (x ≡ 3 → wanted ≡ wanted_beside (block_at b rules f 2 (p - 26) Either 2))
    → set (blocks_at b rules f (x - 1) (p - 26)) (x - 1) block ≡ blocks_at b rules f x p
blocks_at-next b rules f zero p wanted block low from high is other third = absurd (omega arith)
blocks_at-next b rules f (suc zero) p wanted block low from high is other third = grind (arith, common_steps)
blocks_at-next b rules f (suc (suc zero)) p wanted block low from high is other third = grind (arith, common_steps, block_at-last)
blocks_at-next b rules f (suc (suc (suc zero))) p wanted block low from high is other third = grind (arith, common_steps, block_at-last, block_at-earlier b rules f 3 p Either 1 (omega arith))
blocks_at-next b rules f (suc (suc (suc (suc zero)))) p wanted block low from high is other third = grind (arith, common_steps, block_at-last, block_at-earlier b rules f 4 p Either 1 (omega arith), block_at-earlier b rules f 4 p Either 2 (omega arith))
blocks_at-next b rules f (suc (suc (suc (suc (suc x))))) p wanted block low from high is other third = absurd (omega arith)

-- the group of only block 4
pub group-alone : (b : Signal) (rules : RuleNumbers) (p : ℕ) (block : Block) → block ≡ Read (reading_at b p 4 Either rules.burst)
    → group_of (p - 25) (Missing ∷ Missing ∷ Missing ∷ block ∷ []) ≡ group b rules 4 4 p
group-alone b rules p block is = grind (arith, common_steps, group-blocks b rules 4 4 p (blocks_at b rules 4 4 p) refl)

-- The facts of a group, read off its blocks.

-- the choice of C or C' matters only for block 3
abbrev AreAlike : Option ℕ → ℕ → Wanted → ℕ → Type 0
AreAlike h limit wanted x = reading_heard h x Either limit ≡ reading_heard h x wanted limit

reading-wanted : (h : Option ℕ) (limit : ℕ) (wanted : Wanted) → AreAlike h limit wanted 1 × AreAlike h limit wanted 2 × AreAlike h limit wanted 4
reading-wanted h limit wanted = grind (arith, common_steps)

number_3 : (o : Offset) → number o ≡ 3 → (o ≡ C) ⊎ (o ≡ Cx)
number_3 o e = grind (arith, common_steps)

-- versions

bit_unknown : (second : Block) → info_of second ≡ None → version_by_bit second ≡ Unknown
bit_unknown second e = ap (λ (o : Option ℕ). elim o as (λ _. Version) [ None ↦ Unknown | Some info ↦ version_of_bit info ]) e

bit_known : (word : ℕ) → (version_of_bit word ≡ A) ⊎ (version_of_bit word ≡ B)
bit_known word = grind arith

keeps_known : (v w : Version) → (v ≡ A) ⊎ (v ≡ B) → first_known v w ≡ v
keeps_known v w h = grind (arith, common_steps, first_known)

by_bit : (second third : Block) → ((o : Offset) (info : ℕ) → third ≢ Read (Valid o info)) → (word : ℕ) → info_of second ≡ Some word
    → version second third ≡ version_of_bit word
by_bit second third not_valid word e = grind (arith, common_steps, first_known, version_of_offset, keeps_known, version_of_bit, bit_known)

by_nothing : (second third : Block) → info_of second ≡ None → info_of third ≡ None → version second third ≡ Unknown
by_nothing second third e t = grind (arith, common_steps, bit_unknown)

by_correction : (second third : Block) (o : Offset) (info burst : ℕ) → info_of second ≡ None → third ≡ Read (Corrected o info burst)
    → version second third ≡ version_of_offset o
by_correction second third o info burst e t = grind (arith, common_steps, version, first_known, version_of_offset, bit_unknown)

version_is_read : (second third : Block) → ((o : Offset) (info : ℕ) → third ≡ Read (Valid o info) → number o ≡ 3) → VersionIsRead (version second third) second third
version_is_read second third only = record {
  valid_c = λ info e. ap (version second) e;
  valid_cx = λ info e. ap (version second) e;
  no_other = λ o info e. number_3 o (only o info e);
  by_bit = by_bit second third;
  corrected_c = λ none info burst e. by_correction second third C info burst none e;
  corrected_cx = λ none info burst e. by_correction second third Cx info burst none e;
  unknown = by_nothing second third;
}

-- conflicts

differ_unknown : (v : Version) → differ Unknown v ≡ false
differ_unknown v = grind (arith, common_steps)

differ_same : (v w : Version) → differ v w ≡ true → w ≢ v
differ_same v w t e = grind (arith, common_steps)

conflict_says : (second third : Block) → in_conflict second third ≡ true → VersionsDiffer second third
conflict_says second third t = grind (arith, common_steps, info_of, differ, version_of_offset, bit_unknown, differ_unknown, differ_same, version_of_bit)

says_conflict : (second third : Block) → ((o : Offset) (info : ℕ) → third ≡ Read (Valid o info) → number o ≡ 3) → VersionsDiffer second third → in_conflict second third ≡ true
says_conflict second third only h = grind (arith, common_steps, number_3 h.0 (only h.0 h.1 h.3))

-- complete groups

and_left : (p q : Bool) → (p && q) ≡ true → p ≡ true
and_left p q e = grind (arith, common_steps)

and_right : (p q : Bool) → (p && q) ≡ true → q ≡ true
and_right p q e = grind (arith, common_steps)

some_of : (o : Option ℕ) → is_some o ≡ true → (word : ℕ) × (o ≡ Some word)
some_of o e = grind (arith, common_steps)

module _ (one two three four : Block) where
  abbrev blocks : List Block
  blocks = one ∷ two ∷ three ∷ four ∷ []

  abbrev known : Block → Bool
  known block = is_some (info_of block)

  complete_says : are_complete blocks ≡ true
      → (y : ℕ) → 1 ≤ y → y ≤ 4 → (block : Block) × (word : ℕ) × (slice_get blocks (y - 1) ≡ Some block) × (info_of block ≡ Some word)
  complete_says t zero l h = absurd (omega arith)
  complete_says t (suc zero) l h = let s = some_of (info_of one) (and_left (known one) _ t) in (one, s.0, refl, s.1)
  complete_says t (suc (suc zero)) l h = let s = some_of (info_of two) (and_left (known two) _ (and_right (known one) _ t)) in (two, s.0, refl, s.1)
  complete_says t (suc (suc (suc zero))) l h = grind (arith, common_steps, some_of, info_of, and_left, known, and_right)
  complete_says t (suc (suc (suc (suc zero)))) l h = grind (arith, common_steps, some_of, info_of, and_left, known, and_right)
  complete_says t (suc (suc (suc (suc (suc y))))) l h = absurd (omega arith)

  says_complete : ((y : ℕ) → 1 ≤ y → y ≤ 4 → (block : Block) × (word : ℕ) × (slice_get blocks (y - 1) ≡ Some block) × (info_of block ≡ Some word))
      → are_complete blocks ≡ true
  says_complete h = grind (arith, common_steps)

-- blocks

module _ (b : Signal) (rules : RuleNumbers) (f x p : ℕ) where
  abbrev second : Block
  second = block_at b rules f x p Either 2

  abbrev third : Block
  third = block_at b rules f x p (wanted_beside second) 3

  abbrev the_group : Group
  the_group = group_of (p - 26 * (x - f) - 25) (blocks_at b rules f x p)

  -- block 3 was read as number 3
  third_number : (o : Offset) (info : ℕ) → third ≡ Read (Valid o info) → number o ≡ 3
  third_number o info e = grind (arith, common_steps, cases_lt, block_at-missing, wanted_beside, reading_at, block_at-read, heard)

  read_as : 1 ≤ f → x ≤ 4 → (y : ℕ) → f ≤ y → y ≤ x
      → slice_get the_group.blocks (y - 1) ≡ Some (Read (reading_at b (p - 26 * (x - y)) y (wanted_beside second) rules.burst))
  read_as low high zero after before = absurd (omega arith)
  read_as low high (suc zero) after before = ap Some (block_at-read b rules f x p Either 1 after before ∙ ap Read (reading-wanted (heard b (p - 26 * (x - 1))) rules.burst (wanted_beside second)).0)
  read_as low high (suc (suc zero)) after before = ap Some (block_at-read b rules f x p Either 2 after before ∙ ap Read (reading-wanted (heard b (p - 26 * (x - 2))) rules.burst (wanted_beside second)).1)
  read_as low high (suc (suc (suc zero))) after before = ap Some (block_at-read b rules f x p (wanted_beside second) 3 after before)
  read_as low high (suc (suc (suc (suc zero)))) after before = ap Some (block_at-read b rules f x p Either 4 after before ∙ ap Read (reading-wanted (heard b (p - 26 * (x - 4))) rules.burst (wanted_beside second)).2)
  read_as low high (suc (suc (suc (suc (suc y))))) after before = absurd (omega arith)

  is_missing : (y : ℕ) → 1 ≤ y → y ≤ 4 → (y < f) ⊎ (x < y) → slice_get the_group.blocks (y - 1) ≡ Some Missing
  is_missing zero low high out = absurd (omega arith)
  is_missing (suc zero) low high out = ap Some (block_at-missing b rules f x p Either 1 out)
  is_missing (suc (suc zero)) low high out = ap Some (block_at-missing b rules f x p Either 2 out)
  is_missing (suc (suc (suc zero))) low high out = ap Some (block_at-missing b rules f x p (wanted_beside second) 3 out)
  is_missing (suc (suc (suc (suc zero)))) low high out = ap Some (block_at-missing b rules f x p Either 4 out)
  is_missing (suc (suc (suc (suc (suc y))))) low high out = absurd (omega arith)

  pub group_is_read : 1 ≤ f → f ≤ x → x ≤ 4 → 26 * (x - f) + 25 ≤ p → GroupIsRead b rules f x p (group b rules f x p)
  unfolding group
  group_is_read low order high room = record {
    second = second;
    third = third;
    is_second = refl;
    is_third = refl;
    blocks = grind (arith, common_steps, read_as, is_missing);
    kind = refl;
    version = version_is_read second third third_number;
    complete = (
      complete_says (block_at b rules f x p Either 1) second third (block_at b rules f x p Either 4),
      says_complete (block_at b rules f x p Either 1) second third (block_at b rules f x p Either 4),
    );
    conflict = (conflict_says second third, says_conflict second third third_number);
  }

-- The blocks of a group of which all four were heard, and its word.

-- a block that was read from the window heard at its place
read-there : (b : Signal) (rules : RuleNumbers) (due p y : ℕ) (wanted : Wanted) (read : Reading) → 1 ≤ y → y ≤ 4 → p ≡ due + 78 - 26 * (4 - y)
    → read ≡ reading_at b p y wanted rules.burst → Read read ≡ block_at b rules 1 4 (due + 78) wanted y
read-there b rules due p y wanted read low high place is = grind (arith, common_steps, reading_at, block_at-read)

-- the four blocks of a group that ends 78 places after block 1
pub heard-blocks : (b : Signal) (rules : RuleNumbers) (due : ℕ) (hs : List (Option ℕ)) → hs ≡ four_heard b due → (wanted : Wanted) (one two three four : Reading)
    → one ≡ reading_heard (get_or hs 0 None) 1 Either rules.burst → two ≡ reading_heard (get_or hs 1 None) 2 Either rules.burst → wanted ≡ wanted_beside (Read two)
    → three ≡ reading_heard (get_or hs 2 None) 3 wanted rules.burst → four ≡ reading_heard (get_or hs 3 None) 4 Either rules.burst
    → Read one ∷ Read two ∷ Read three ∷ Read four ∷ [] ≡ blocks_at b rules 1 4 (due + 78)
heard-blocks b rules due hs is wanted one two three four is_one is_two beside is_three is_four =
    let limit = rules.burst in
    let first : one ≡ reading_at b due 1 Either limit = is_one ∙ ap (λ (xs : List (Option ℕ)). reading_heard (get_or xs 0 None) 1 Either limit) is in
    let second : two ≡ reading_at b (due + 26) 2 Either limit = is_two ∙ ap (λ (xs : List (Option ℕ)). reading_heard (get_or xs 1 None) 2 Either limit) is in
    let third : three ≡ reading_at b (due + 52) 3 wanted limit = is_three ∙ ap (λ (xs : List (Option ℕ)). reading_heard (get_or xs 2 None) 3 wanted limit) is in
    let fourth : four ≡ reading_at b (due + 78) 4 Either limit = is_four ∙ ap (λ (xs : List (Option ℕ)). reading_heard (get_or xs 3 None) 4 Either limit) is in
    blocks_at-read b rules 1 4 (due + 78) (Read one) (Read two) (Read three) (Read four)
    (read-there b rules due due 1 Either one (omega arith) (omega arith) (omega arith) first)
    (read-there b rules due (due + 26) 2 Either two (omega arith) (omega arith) (omega arith) second)
    (read-there b rules due (due + 52) 3 wanted three (omega arith) (omega arith) (omega arith) third
    ∙ ap (λ (w : Wanted). block_at b rules 1 4 (due + 78) w 3) beside)
    (read-there b rules due (due + 78) 4 Either four (omega arith) (omega arith) (omega arith) fourth)

-- the outcome of a reading is the four bits of its block
pub outcome-nibble : (r : Reading) → outcome_number r ≡ nibble (outcome_of (Read r))
outcome-nibble r = grind (arith, common_steps)

-- four outcomes are a word
pub word-of-outcomes : (one two three four : Reading) (k l m n w : ℕ) → k ≡ outcome_number one → l ≡ outcome_number two → m ≡ outcome_number three → n ≡ outcome_number four
    → w ≡ k + 16 * (l + 16 * (m + 16 * n)) → w ≡ word_of_blocks (map outcome_of (Read one ∷ Read two ∷ Read three ∷ Read four ∷ []))
word-of-outcomes one two three four k l m n w first second third fourth is = grind (arith, common_steps, outcome-nibble)
