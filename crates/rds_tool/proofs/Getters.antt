-- What the typed getters read, by the rows of a parse.
use Rattle.rds_tool.proofs.Names.{common_steps, ◌<◌, ◌≤◌, ◌^◌, ◌≡◌, ◌⊎◌, arith, ◌∙◌, ℕ, List, [], Bool, Bor, Option, Some, None, Result, Ok, Err, sym, refl, codes, ap, true, false, if◌then◌else◌, Vec, ok_or, option_map, IfErr, IfOk, find, option_and_then, bytes_eq, result_ok, ExplainsUnsignedError, HasUnsignedDigitsIfOk, ParsesUnsigned, digits_value, without_leading_plus, ReadsOne, Row, Text, TriesOne, first_of, first_value, matched_of, one_of, one_text, rows_of, ValueSource, gaps_asked_for, gaps_spelled, if_given, is_given, is_of_words, is_true, number_of, number_up_to, gaps_of}
use Rattle.rds_tool.specs.declared.fault.NoJob.{NoJob, TheVariants.Gaps, TheVariants.Memory}
use Rattle.std.specs.declared.num.ParseIntError.{ParseIntError}
use Rattle.clap.{specs.ValueTests.is_unsigned_in, specs.declared.parser.matches.Found.Found, specs.declared.parser.matches.MatchedArg.MatchedArg, proofs.ValueTestLemmas.Accepts-accepts, proofs.ValueTestLemmas.accepts-Accepts, proofs.WalkLemmas.find_row, proofs.WalkLemmas.first_value-rows, proofs.WalkLemmas.one_text-rows}
use Rattle.clap.specs.declared.builder.value_parser.ValueParser.TheVariants as parser

-- the way in which the unsigned types of std read a number of this many binary digits
abbrev pub reads_unsigned : ℕ → Text → Result ℕ ParseIntError → Type 0
reads_unsigned width text r = ParsesUnsigned width 10 text r × ExplainsUnsignedError 10 text r × HasUnsignedDigitsIfOk text r

-- ---- numbers

module _ (width most : ℕ) (below : (n : ℕ) → n < 2 ^ width → (n < 2 ^ 64) × (n ≤ most)) (above : (n : ℕ) → n ≤ most → n < 2 ^ width) where
  read : (text : Text) (r : Result ℕ ParseIntError) → reads_unsigned width text r → result_ok r ≡ number_up_to most text
  read text (Ok n) h =
      let fits = below _ h.0.0.1 in
      let taken : is_unsigned_in 0 most text ≡ true = Accepts-accepts false (parser.Unsigned 0 most) text (h.0.0.0, fits.0, omega arith, fits.1) in
      rw (taken, h.0.1) refl
  read text (Err e) h = by (is_unsigned_in 0 most text) refl
    where
      by : (b : Bool) → is_unsigned_in 0 most text ≡ b → None ≡ (if b then Some (digits_value 10 (without_leading_plus text)) else None)
      by true taken = let is = accepts-Accepts false (parser.Unsigned 0 most) text taken in absurd (h.0 (is.0, above _ is.3))
      by false outside = refl

  number_at : (o : Option Text) (r : Option ℕ) → (o ≡ None → r ≡ None) → ((t : Text) → o ≡ Some t → ReadsOne (reads_unsigned width) t r)
      → r ≡ option_and_then (number_up_to most) o
  number_at None r none value = none refl
  number_at (Some t) (Some n) none value = read t (Ok n) (value t refl)
  number_at (Some t) None none value = let error = value t refl in read t (Err error.0) error.1

  given_at : (o : Option Text) (r : Result (Option ℕ) ParseIntError) → (o ≡ None → r ≡ Ok None) → ((t : Text) → o ≡ Some t → TriesOne (reads_unsigned width) t r)
      → result_ok r ≡ if_given most o
  given_at None r none value = ap result_ok (none refl)
  given_at (Some t) (Ok (Some n)) none value = ap (option_map (λ (k : ℕ). Some k)) (read t (Ok n) (value t refl))
  given_at (Some t) (Ok None) none value = absurd (value t refl)
  given_at (Some t) (Err e) none value = ap (option_map (λ (k : ℕ). Some k)) (read t (Err e) (value t refl))

  -- an option without a default
  pub given_rows : (f : Found) (id : Text) (r : Result (Option ℕ) ParseIntError)
      → (one_text f id ≡ None → r ≡ Ok None) → ((t : Text) → one_text f id ≡ Some t → TriesOne (reads_unsigned width) t r)
      → result_ok r ≡ if_given most (one_of id (rows_of f))
  given_rows f id r none value = given_at (one_text f id) r none value ∙ ap (if_given most) (one_text-rows f id)

  number_rows_of : (f : Found) (id : Text) (r : Option ℕ)
      → (one_text f id ≡ None → r ≡ None) → ((t : Text) → one_text f id ≡ Some t → ReadsOne (reads_unsigned width) t r)
      → r ≡ option_and_then (number_up_to most) (one_of id (rows_of f))
  number_rows_of f id r none value = number_at (one_text f id) r none value ∙ ap (option_and_then (number_up_to most)) (one_text-rows f id)

-- the ends of the types
below_32 : (n : ℕ) → n < 2 ^ 32 → (n < 2 ^ 64) × (n ≤ 4294967295)
below_32 n h = (omega (arith, h), omega (arith, h))

above_32 : (n : ℕ) → n ≤ 4294967295 → n < 2 ^ 32
above_32 n h = omega (arith, h)

below_64 : (n : ℕ) → n < 2 ^ 64 → (n < 2 ^ 64) × (n ≤ 18446744073709551615)
below_64 n h = (h, omega (arith, h))

above_64 : (n : ℕ) → n ≤ 18446744073709551615 → n < 2 ^ 64
above_64 n h = omega (arith, h)

pub number_rows : (f : Found) (id : Text) (r : Option ℕ)
    → (one_text f id ≡ None → r ≡ None) → ((t : Text) → one_text f id ≡ Some t → ReadsOne (reads_unsigned 32) t r) → r ≡ number_of id (rows_of f)
number_rows = number_rows_of 32 4294967295 below_32 above_32

pub share_rows : (f : Found) (id : Text) (r : Result (Option ℕ) ParseIntError)
    → (one_text f id ≡ None → r ≡ Ok None) → ((t : Text) → one_text f id ≡ Some t → TriesOne (reads_unsigned 32) t r)
    → result_ok r ≡ if_given 4294967295 (one_of id (rows_of f))
share_rows = given_rows 32 4294967295 below_32 above_32

pub bits_rows : (f : Found) (id : Text) (r : Result (Option ℕ) ParseIntError)
    → (one_text f id ≡ None → r ≡ Ok None) → ((t : Text) → one_text f id ≡ Some t → TriesOne (reads_unsigned 64) t r)
    → result_ok r ≡ if_given 18446744073709551615 (one_of id (rows_of f))
bits_rows = given_rows 64 18446744073709551615 below_64 above_64

-- ---- texts

pub flag_rows : (f : Found) (id : Text) (given : Option (Bor Text)) → option_map (λ s. s.now) given ≡ first_value f id
    → is_true (option_map (λ s. s.now) given) ≡ is_true (first_of id (rows_of f))
flag_rows f id given is = ap is_true (is ∙ first_value-rows f id)

-- whence an entry is
source_rows : (f : Found) (id : Text)
    → option_and_then (λ (a : MatchedArg). a.source) (matched_of f id) ≡ option_and_then (λ (r : Row). r.source) (find (λ r. bytes_eq r.id id) (rows_of f))
source_rows f id = grind (arith, common_steps, find, option_and_then, find_row)

pub source_is : (f : Found) (id : Text) (source : Option ValueSource) → source ≡ option_and_then (λ (a : MatchedArg). a.source) (matched_of f id)
    → is_given id (rows_of f) ≡ is_of_words source
source_is f id source is = ap is_of_words (sym (is ∙ source_rows f id))

-- ---- the gaps

module _ (f : Found) (given : Option (Bor Text)) (is : option_map (λ s. s.now) given ≡ first_value f (codes "gaps")) where
  asked_for : gaps_asked_for (rows_of f) ≡ gaps_spelled (option_map (λ s. s.now) given)
  asked_for = ap gaps_spelled (sym (is ∙ first_value-rows f (codes "gaps")))

  -- if the option isn't given there are none
  pub no_gaps : given ≡ None → (gaps : List (ℕ × ℕ)) → gaps ≡ [] → gaps_asked_for (rows_of f) ≡ Some gaps
  no_gaps none gaps empty = rw empty (asked_for ∙ ap (λ (o : Option (Bor Text)). gaps_spelled (option_map (λ s. s.now) o)) none)

  -- if it is, they are those of its text, if that spells some
  module _ (text : Bor Text) (some : given ≡ Some text) (gaps : Option (Vec (ℕ × ℕ))) (spelled : option_map (λ g. g.items) gaps ≡ gaps_of text.now) where
    asked_as : gaps_asked_for (rows_of f) ≡ option_map (λ g. g.items) gaps
    asked_as = asked_for ∙ ap (λ (o : Option (Bor Text)). gaps_spelled (option_map (λ s. s.now) o)) some ∙ sym spelled

    pub read_gaps : (read : Result (Vec (ℕ × ℕ)) NoJob) → read ≡ ok_or gaps Gaps → IfOk read (λ v. gaps_asked_for (rows_of f) ≡ Some v.items)
    read_gaps read e = grind (arith, common_steps, asked_as, ok_or, read)

    pub unread_gaps : (read : Result (Vec (ℕ × ℕ)) NoJob) → read ≡ ok_or gaps Gaps
        → IfErr read (λ why. (why ≡ Memory) ⊎ ((why ≡ Gaps) × (gaps_asked_for (rows_of f) ≡ None)))
    unread_gaps read e = grind (arith, common_steps, asked_as, ok_or, read)

-- the steps of functions that need no answer
pub ruleset getter_steps = (common_steps, codes, bits_rows, share_rows, number_rows, source_is)
