-- The text that `csv` writes for fields that need no quotes.
use Rattle.rds_tool.proofs.Names.{◌/◌, ◌%◌, ◌||◌, Bool, get_or, slice_index, suc, true, zero, ◌++◌, ◌+◌, ◌*◌, ◌<◌, ◌^◌, ◌∙◌, ◌∷◌, ◌≡◌, ◌≤◌, List, [], ap, append-nil, arith, false, leb, length, map, refl, ℕ, Bor, decimal, digit_value, AllByRecursion, join_with_byte, AllDigits, leb-true, nat_tests, common_steps, decimal_is_IsNumeral, length-map, list_any-append, digit_from_value, default_writer, field_text, fields_text, needs_byte, row_body, row_text, Offset, upper_digits, Group, block_text, hex_digits, item_fields, item_row, kind_text, row, version_text, word_text, IsPlain, IsShort, rules}
use Rattle.csv.specs.Writing.{is_blank}
use Rattle.rds_code.specs.{Offsets.name, declared.reading.Reading.TheVariants.Corrected, declared.reading.Reading.TheVariants.Lost, declared.reading.Reading.TheVariants.Valid}
use Rattle.rds_sync.specs.declared.item.{Block.Block, Block.TheVariants.Missing, Block.TheVariants.Read, Version.Version, Group.Group as AGroup}

-- ---- fields without quotes

-- a digit needs no quotes
digit_plain : (c : ℕ) → digit_value c < 10 → needs_byte default_writer c ≡ false
digit_plain c h = grind (arith, common_steps, digit_from_value, nat_tests)

digits_plain : (ds : List ℕ) → AllDigits 10 ds → IsPlain ds
digits_plain [] h = refl
digits_plain (c ∷ cs) h = rw (digit_plain c h.0, digits_plain cs h.1)

pub decimal_plain : (n : ℕ) → n < 2 ^ 64 → IsPlain (decimal n)
decimal_plain n h = digits_plain (decimal n) (decimal_is_IsNumeral n h).0.1

-- ---- rows of them

field_as_is : (f : List ℕ) → IsPlain f → field_text default_writer f ≡ f
field_as_is f plain = rw plain refl

fields_as_is : (f : List ℕ) (fs : List (List ℕ)) → AllByRecursion IsPlain (f ∷ fs) → row_body default_writer (f ∷ fs) ≡ join_with_byte 44 (f ∷ fs)
unfolding fields_text
fields_as_is f [] plain = append-nil (field_text default_writer f) ∙ field_as_is f plain.0
fields_as_is f (g ∷ fs) plain = rw (field_as_is f plain.0) (ap (λ (t : List ℕ). f ++ 44 ∷ t) (fields_as_is g fs plain.1))

-- two or more plain fields are a row of the listing
plain_row : (fs : List (List ℕ)) → 2 ≤ length fs → AllByRecursion IsPlain fs → row_text default_writer fs ≡ row fs
unfolding is_blank
plain_row fs several plain = grind (arith, common_steps, fields_as_is, row)

-- the same through references
pub plain_row_now : (fs : List (Bor (List ℕ))) → 2 ≤ length fs → AllByRecursion IsPlain (map (λ f. f.now) fs)
    → row_text default_writer (map (λ f. f.now) fs) ≡ row (map (λ f. f.now) fs)
plain_row_now fs several plain = grind (arith, common_steps, length-map, plain_row, row)

-- ---- fields of a listing

pub name_plain : (o : Offset) → IsPlain (name o)
name_plain o = grind (arith, common_steps)

-- a text of at most as many bytes as a number that is short enough
pub shorter : (text : List ℕ) (n : ℕ) → length text ≤ n → leb n 20 ≡ true → IsShort text
shorter text n few short = omega (arith, few, leb-true n 20 short)

or_first : (a b : Bool) → (a || b) ≡ false → a ≡ false
or_first a b h = grind (arith, common_steps)

or_second : (a b : Bool) → (a || b) ≡ false → b ≡ false
or_second a b h = grind (arith, common_steps)

plain_append : (xs ys : List ℕ) → IsPlain xs → IsPlain ys → IsPlain (xs ++ ys)
plain_append xs ys p q = rw (list_any-append, p, q) refl

plain_at : (ds : List ℕ) (i : ℕ) → IsPlain ds → i < length ds → needs_byte default_writer (slice_index ds i) ≡ false
plain_at [] i p h = absurd (omega arith)
plain_at (d ∷ ds) zero p h = or_first _ _ p
plain_at (d ∷ ds) (suc i) p h = plain_at ds i (or_second _ _ p) (omega arith)

hex_plain : (width n : ℕ) → IsPlain (hex_digits width n)
hex_plain zero n = refl
hex_plain (suc width) n = plain_append (hex_digits width (n / 16)) _ (hex_plain width (n / 16)) (rw (plain_at upper_digits (n % 16) refl (omega arith)) refl)

word_plain : (o : Offset) (info : ℕ) → IsPlain (word_text o info)
word_plain o info = plain_append (name o) _ (name_plain o) (hex_plain 4 info)

pub block_plain : (b : Block) → IsPlain (block_text b)
block_plain Missing = refl
block_plain (Read Lost) = refl
block_plain (Read (Valid o info)) = word_plain o info
block_plain (Read (Corrected o info burst)) = plain_append (word_text o info) _ (word_plain o info) (hex_plain 7 burst)

pub version_plain : (v : Version) (conflict : Bool) → IsPlain (version_text v conflict)
version_plain v conflict = grind (arith, common_steps)

-- the four blocks of a group, one by one
pub four_blocks : {X : Type 0} (show : X → List ℕ) (bs : List X) (a b c d : X) → length bs ≡ 4
    → map show bs ≡ show (get_or bs 0 a) ∷ show (get_or bs 1 b) ∷ show (get_or bs 2 c) ∷ show (get_or bs 3 d) ∷ []
four_blocks show bs a b c d n = grind (arith, common_steps)

blocks_plain : (bs : List Block) → AllByRecursion IsPlain (map block_text bs)
blocks_plain [] = tt
blocks_plain (b ∷ bs) = (block_plain b, blocks_plain bs)

-- the row of a group is the record that `csv` writes of its fields
pub group_record : (g : AGroup) → g.place < 2 ^ 64 → IsPlain (kind_text g.kind) → row_text default_writer (item_fields (Group g)) ≡ item_row (Group g)
group_record g place kind =
    plain_row (item_fields (Group g)) (omega arith)
    (refl, (decimal_plain g.place place, (kind, (version_plain g.version g.conflict, blocks_plain g.blocks))))

-- ---- how long a row is

joined_short : (f : List ℕ) (fs : List (List ℕ)) → AllByRecursion IsShort (f ∷ fs) → length (join_with_byte 44 (f ∷ fs)) + 1 ≤ length (f ∷ fs) * 21
joined_short f [] short = omega (arith, short.0)
joined_short f (h ∷ fs) short = grind (arith, common_steps, common_steps, joined_short h fs short.1)

-- up to eight short fields
pub row_short : (fs : List (List ℕ)) → 2 ≤ length fs → length fs ≤ 8 → AllByRecursion IsShort fs → length (row fs) ≤ 168
row_short [] several few short = absurd (omega arith)
row_short (f ∷ fs) several few short = grind (arith, common_steps, joined_short f fs short)

-- a short row after others
pub text_short : (old new added : List ℕ) → new ≡ old ++ added → length added ≤ 168 → length new ≤ length old + 168
text_short old new added e h = grind (arith, common_steps, e)

pub row_short_now : (fs : List (Bor (List ℕ))) → 2 ≤ length fs → length fs ≤ 8 → AllByRecursion IsShort (map (λ f. f.now) fs)
    → length (row (map (λ f. f.now) fs)) ≤ 168
row_short_now fs several few short = row_short _ (rw length-map several) (rw length-map few) short

-- the steps of functions that need no answer
pub ruleset field_steps = (common_steps, rules, decimal_plain, shorter, leb-true)
