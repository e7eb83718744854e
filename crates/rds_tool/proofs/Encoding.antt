-- Groups of lines whose text goes on.
use Rattle.rds_tool.proofs.Names.{common_steps, ◌+◌, ◌++◌, ◌<◌, ◌≤◌, ◌==◌, ◌∙◌, ◌∷◌, ◌≡◌, ◌≢◌, Bool, Err, List, Ok, [], ap, append-nil, append_assoc, arith, drop, false, get_or, if◌then◌else◌, length, length-append, map, length-take, not, refl, set, subst, sym, take, true, ◌||◌, ℕ, concat, filter, flat_map, onto_first, slice_split, eqb-false, ne_eqb, flat_map-append, take-set_at, drop-map, length-set, take-map, take_all, take_more, encoded_text, group_text, is_space, line_text, lines_of, words_of, and_then, GroupText}
use Rattle.rds_tool.specs.Inside.GroupLines.{AddsLine, HasGroups, IsGroupLines, begun, text_of_groups, with_lines}
use Rattle.std.proofs.lemmas.List.Splits.{length-slice_split}

-- ---- the lines of a text with one byte before it

blank_before : (b : ℕ) (rest : List ℕ) → is_space b ≡ true → lines_of (b ∷ rest) ≡ lines_of rest
blank_before b rest h = ap (λ t. slice_split (λ x. x == 10) (if not t then b ∷ filter (λ x. not (is_space x)) rest else filter (λ x. not (is_space x)) rest)) h

digit_before : (b : ℕ) (rest : List ℕ) → is_space b ≡ false → b == 10 ≡ false → lines_of (b ∷ rest) ≡ onto_first b (lines_of rest)
digit_before b rest h d = grind (arith, common_steps)

some_lines : (rest : List ℕ) → 0 < length (lines_of rest)
some_lines rest = omega (arith, length-slice_split (λ b. b == 10) (filter (λ b. not (is_space b)) rest))

begun_more : (line : List ℕ) (b : ℕ) (lines : List (List ℕ)) → 0 < length lines → begun line (onto_first b lines) ≡ begun (line ++ b ∷ []) lines
begun_more line b lines h = grind (arith, common_steps, append_assoc, begun)

-- ---- the first of some lines

line_taken : (hex : Bool) (text : List ℕ) (line : List ℕ) (lines : List (List ℕ)) (more : List ℕ) → line_text hex line ≡ Ok more
    → with_lines hex text (line ∷ lines) ≡ with_lines hex (text ++ more) lines
line_taken hex text line lines more e = grind (arith, common_steps, append_assoc)

line_refused : (hex : Bool) (text : List ℕ) (line : List ℕ) (lines : List (List ℕ)) → line_text hex line ≡ Err GroupText
    → with_lines hex text (line ∷ lines) ≡ Err GroupText
line_refused hex text line lines e = rw e refl

-- a line with digits
pub line_of_digits : (hex : Bool) (line : List ℕ) → length line ≢ 0 → line_text hex line ≡ and_then (words_of line) (λ words. Ok (group_text hex words))
line_of_digits hex line h = grind (arith, common_steps)

-- a line of more than sixteen digits is refused
long_line : (hex : Bool) (line : List ℕ) → 16 < length line → line_text hex line ≡ Err GroupText
long_line hex line h = grind (arith, common_steps, line_of_digits, ne_eqb, eqb-false)

-- ---- one byte more

module _ (groups : List (List ℕ)) (line text : List ℕ) (b : ℕ) where
  -- a refused text stays so
  pub stays_refused : (more : List (List ℕ)) (next : List ℕ) → HasGroups groups line true text → HasGroups more next true (text ++ b ∷ [])
  stays_refused more next has hex rest = ap (encoded_text hex) (append_assoc text (b ∷ []) rest) ∙ has hex (b ∷ rest)

  module _ (has : HasGroups groups line false text) where
    goes_on : (hex : Bool) (rest : List ℕ) → encoded_text hex ((text ++ b ∷ []) ++ rest) ≡ with_lines hex (text_of_groups hex groups) (begun line (lines_of (b ∷ rest)))
    goes_on hex rest = ap (encoded_text hex) (append_assoc text (b ∷ []) rest) ∙ has hex (b ∷ rest)

    pub blank_taken : is_space b ≡ true → HasGroups groups line false (text ++ b ∷ [])
    blank_taken h hex rest = goes_on hex rest ∙ ap (λ lines. with_lines hex (text_of_groups hex groups) (begun line lines)) (blank_before b rest h)

    -- a digit goes to the line
    pub digit_taken : is_space b ≡ false → b == 10 ≡ false → HasGroups groups (line ++ b ∷ []) false (text ++ b ∷ [])
    digit_taken h d hex rest = grind (arith, common_steps, goes_on, begun, digit_before, begun_more, some_lines)

    -- one digit too many
    pub digit_refused : (more : List (List ℕ)) (next : List ℕ) → is_space b ≡ false → b == 10 ≡ false → length line ≡ 16 → HasGroups more next true (text ++ b ∷ [])
    digit_refused more next h d full hex rest = grind (arith, common_steps, digit_taken, some_lines, begun, line_refused, long_line, length-append)

-- ---- the same of a line that is kept in sixteen bytes

module _ (groups : List (List ℕ)) (line : List ℕ) (len : ℕ) (text : List ℕ) (b : ℕ) (more : List ℕ) (is : more ≡ text ++ b ∷ []) where
  module _ (faulty : Bool) (has : IsGroupLines groups line len faulty text) where
    pub after_blank : is_space b ≡ true → IsGroupLines groups line len faulty more
    after_blank h = grind (arith, common_steps, stays_refused, blank_taken)

    pub after_digit : is_space b ≡ false → b == 10 ≡ false → len < 16 → IsGroupLines groups (set line len b) (len + 1) faulty more
    after_digit h d free = grind (arith, common_steps, length-set, set, take-set_at, stays_refused, digit_taken)

    pub after_long : is_space b ≡ false → b == 10 ≡ false → len ≡ 16 → IsGroupLines groups line len true more
    after_long h d full = record { room = has.room; fits = has.fits; has = subst (HasGroups groups (take len line) true) (sym is) (next faulty has.has) }
      where
        next : (f : Bool) → HasGroups groups (take len line) f text → HasGroups groups (take len line) true (text ++ b ∷ [])
        next true refused = stays_refused groups (take len line) text b groups (take len line) refused
        next false taken = digit_refused groups (take len line) text b taken groups (take len line) h d (omega (arith, length-take len line, full, has.room))

    pub after_feed : b ≡ 10 → (fine : Bool) (new : List (List ℕ)) → (fine ≡ true → AddsLine (take len line) groups new)
        → (fine ≡ false → (hex : Bool) → line_text hex (take len line) ≡ Err GroupText) → IsGroupLines new line 0 (faulty || not fine) more
    after_feed feed fine new adds refuses = grind (arith, common_steps, stays_refused)

-- ---- the whole text

module _ (groups : List (List ℕ)) (line text : List ℕ) (hex : Bool) where
  pub all_refused : HasGroups groups line true text → encoded_text hex text ≡ Err GroupText
  all_refused has = ap (encoded_text hex) (sym (append-nil text)) ∙ has hex []

  module _ (has : HasGroups groups line false text) where
    ended : encoded_text hex text ≡ with_lines hex (text_of_groups hex groups) (line ∷ [])
    ended = ap (encoded_text hex) (sym (append-nil text)) ∙ has hex [] ∙ ap (λ l. with_lines hex (text_of_groups hex groups) (l ∷ [])) (append-nil line)

    pub last_line : (more : List (List ℕ)) → AddsLine line groups more → encoded_text hex text ≡ Ok (text_of_groups hex more)
    last_line more (added, is, says) = grind (arith, common_steps, ended, line_taken, append-nil, flat_map-append)

    pub last_is_refused : line_text hex line ≡ Err GroupText → encoded_text hex text ≡ Err GroupText
    last_is_refused says = ended ∙ line_refused hex (text_of_groups hex groups) line [] says

-- the text of which a line was kept in sixteen bytes
module _ (groups : List (List ℕ)) (line : List ℕ) (len : ℕ) (text : List ℕ) (hex : Bool) where
  pub fine_text : (faulty : Bool) → IsGroupLines groups line len faulty text → faulty ≡ false → (more : List (List ℕ)) → AddsLine (take len line) groups more
      → encoded_text hex text ≡ Ok (text_of_groups hex more)
  fine_text true has fine more adds = grind (arith, common_steps)
  fine_text false has fine more adds = last_line groups (take len line) text hex has.has more adds

  pub faulty_text : (faulty : Bool) → IsGroupLines groups line len faulty text → faulty ≡ true → encoded_text hex text ≡ Err GroupText
  faulty_text true has faulty = all_refused groups (take len line) text hex has.has
  faulty_text false has faulty = grind (arith, common_steps)

  pub faulty_line : (faulty : Bool) → IsGroupLines groups line len faulty text → line_text hex (take len line) ≡ Err GroupText → encoded_text hex text ≡ Err GroupText
  faulty_line true has says = all_refused groups (take len line) text hex has.has
  faulty_line false has says = last_is_refused groups (take len line) text hex has.has says

-- ---- the text of groups, row by row

module _ (hex : Bool) where
  pub one_row : (groups : List (List ℕ)) (i : ℕ) → i < length groups
      → flat_map (group_text hex) (take (i + 1) groups) ≡ flat_map (group_text hex) (take i groups) ++ group_text hex (get_or groups i [])
  one_row groups i within = grind (arith, common_steps, take_more, flat_map-append, append-nil)

  pub as_rows : (groups : List (List ℕ)) → flat_map (group_text hex) groups ≡ concat (map (group_text hex) groups)
  as_rows [] = refl
  as_rows (words ∷ groups) = ap (λ text. group_text hex words ++ text) (as_rows groups)

  -- those of a part of the groups
  pub all_rows : (groups : List (List ℕ)) (from n i : ℕ) → length (take n (drop from groups)) ≤ i
      → flat_map (group_text hex) (take i (take n (drop from groups))) ≡ concat (take n (drop from (map (group_text hex) groups)))
  all_rows groups from n i past = grind (arith, common_steps, take_all, as_rows, drop-map, take-map)

-- the steps of functions that need no answer
pub ruleset group_steps = (common_steps, append_assoc, one_row, all_rows)
