-- The listing of groups that were encoded, and which texts are that of a list, or a part of it.
use Rattle.rds_tool.proofs.Names.{common_steps, ◌≡◌, ℕ, zero, suc, ◌+◌, ◌*◌, ◌/◌, ◌%◌, ◌^◌, ◌<◌, ◌≤◌, List, [], ◌∷◌, ◌++◌, Bool, true, false, cond, Some, Result, Ok, Err, length, flat_map, get_or, refl, sym, subst, ap, ap₂, ◌∙◌, arith, append-nil, IfOk, not, nat_lt, ◌||◌, if◌then◌else◌, byte_at, bytes_high_first, filter, result_unwrap_or, nat_tests, filter-append, length-map-range_with_len, IsBytes, decode_of, decode_sized, encode_lower, encode_with, hex_digit_value, lower_digits, FromHexError, Signal, bits_of, length_of, packed_bit, ungapped, IsLossRule, report_items, RuleNumbers, Loss, cuts_bits, listed, group_text, lines_of, lines_text, words_of, words_or_refusal, and_then, bytes_of, first_bits, is_blank, or_hex_text, recording_of, EncodedGroupsAreListed, EncodedGroupsAreTaken, ListsEndWithTotals, StreamsAreListed, groups_of_lines, whole_input, item_row, report_text, cut_recording, list_text, result_of_job, text_of_task, totals_list, PlanOf, crew_of, cut_by, plan_of, loss_of, rules_of, task_of, RdsError, BadCutting, BurstRange, ReachRange, Cuts, Input, Settings}
use Rattle.hex.proofs.HexLemmas.{IsDigits-lower_digits, decode_of-encode_lower, decode_of-ok, decode_sized-ok, decode_sized-twice}
use Rattle.rds_sync.specs.Sent.{AreWords, EncodedGroupsAreListed as SentGroupsAreListed, PackedGroupsAreSent, bits_sent, packed_group, packed_groups}
use Rattle.rds_tool.specs.declared.job.Job.TheVariants as job
use Rattle.rds_tool.specs.declared.task.Task.TheVariants as task

-- ---- steps that were not refused

abbrev taken : {A : Type 0} → A → Result A RdsError
taken a = Ok a

pub same-ok : {A : Type 0} (a b : A) → taken a ≡ taken b → a ≡ b
same-ok {A = A} a b is = ap (λ (r : Result A RdsError). result_unwrap_or r a) is

-- both steps were taken
pub both : {A B : Type 0} (first : Result A RdsError) (step : A → Result B RdsError) (made : B) → and_then first step ≡ Ok made
    → (a : A) × (first ≡ Ok a) × (step a ≡ Ok made)
both first step made is = grind (arith, common_steps)

-- ---- words of sixteen bits

four_small : (a b c d : ℕ) → a < 2 ^ 16 → b < 2 ^ 16 → c < 2 ^ 16 → d < 2 ^ 16 → (y : ℕ) → get_or (a ∷ b ∷ c ∷ d ∷ []) y 0 < 2 ^ 16
four_small a b c d ha hb hc hd it = grind (arith, common_steps)

-- the words of sixteen digits
words_small : (digits : List ℕ) (read : Result (List ℕ) FromHexError) (words : List ℕ) → decode_sized digits 8 ≡ read
    → words_or_refusal read ≡ Ok words → (y : ℕ) → get_or words y 0 < 2 ^ 16
words_small digits (Ok bytes) words is spelled =
    let long = decode_sized-ok digits 8 bytes is in
    let small = (decode_of-ok digits bytes (sym (decode_sized-twice digits 8 long) ∙ is)).3 in
    let two : (i : ℕ) → 256 * get_or bytes i 0 + get_or bytes (i + 1) 0 < 2 ^ 16 = λ i. omega (arith, small i, small (i + 1)) in
    rw (← same-ok _ words spelled) (four_small _ _ _ _ (two 0) (two 2) (two 4) (two 6))
words_small digits (Err e) words is spelled = cc spelled

more_small : (words : List ℕ) (groups : List (List ℕ)) → ((y : ℕ) → get_or words y 0 < 2 ^ 16) → AreWords groups → AreWords (words ∷ groups)
more_small words groups first others it = grind (arith, common_steps)

-- ---- the text that is written for lines

line_spelled : (hex : Bool) (digit : ℕ) (digits : List ℕ) (lines : List (List ℕ)) (words : List ℕ) (groups : List (List ℕ))
    → words_of (digit ∷ digits) ≡ Ok words → lines_text hex lines ≡ Ok (flat_map (group_text hex) groups)
    → lines_text hex ((digit ∷ digits) ∷ lines) ≡ Ok (flat_map (group_text hex) (words ∷ groups))
line_spelled hex digit digits lines words groups first others = rw (first, others) refl

-- the groups of lines: their words are small, and this is written for them
abbrev AreSpelled : List (List ℕ) → List (List ℕ) → Type 0
AreSpelled lines groups = AreWords groups × ((hex : Bool) → lines_text hex lines ≡ Ok (flat_map (group_text hex) groups))

groups_spelled : (lines groups : List (List ℕ)) → groups_of_lines lines ≡ Ok groups → AreSpelled lines groups
groups_spelled [] groups is = subst (AreSpelled []) (same-ok [] groups is) (λ k y. omega arith, λ hex. refl)
groups_spelled ([] ∷ lines) groups is = grind (arith, common_steps, groups_spelled lines groups is)
groups_spelled ((digit ∷ digits) ∷ lines) groups is =
    let first = both (words_of (digit ∷ digits)) _ groups is in
    let next = both (groups_of_lines lines) _ groups first.2 in
    let others = groups_spelled lines next.0 next.1 in
    let small = words_small (digit ∷ digits) (decode_sized (digit ∷ digits) 8) first.0 refl first.1 in
    subst (AreSpelled ((digit ∷ digits) ∷ lines)) (same-ok (first.0 ∷ next.0) groups next.2)
    (more_small first.0 next.0 small others.0, λ hex. line_spelled hex digit digits lines first.0 next.0 first.1 (others.1 hex))

-- ---- the bytes of it

byte_small : (k n : ℕ) → byte_at k n < 256
byte_small k n = grind (arith, common_steps)

bytes_small : (k n : ℕ) → IsBytes (bytes_high_first k n)
bytes_small zero n i = omega arith
bytes_small (suc k) n zero = byte_small k n
bytes_small (suc k) n (suc i) = bytes_small k n i

small-append : (xs ys : List ℕ) → IsBytes xs → IsBytes ys → IsBytes (xs ++ ys)
small-append [] ys hx hy i = hy i
small-append (x ∷ xs) ys hx hy zero = hx 0
small-append (x ∷ xs) ys hx hy (suc i) = small-append xs ys (λ k. hx (suc k)) hy i

packed_small : (groups : List (List ℕ)) → IsBytes (packed_groups groups)
packed_small [] i = omega arith
packed_small (words ∷ groups) i = small-append (packed_group words) (packed_groups groups) (bytes_small 13 _) (packed_small groups) i

-- a digit is no blank
digit_kept : (c d : ℕ) → hex_digit_value c ≡ Some d → not (is_blank c) ≡ true
digit_kept c d is = grind (arith, nat_tests)

digits_kept : (bytes : List ℕ) → IsBytes bytes → filter (λ b. not (is_blank b)) (encode_lower bytes) ≡ encode_lower bytes
unfolding encode_with
digits_kept [] small = refl
digits_kept (b ∷ bytes) small =
    let fits : b < 256 = small 0 in
    let high = digit_kept (get_or lower_digits (b / 16) 0) (b / 16) (IsDigits-lower_digits (b / 16) (omega arith)) in
    let low = digit_kept (get_or lower_digits (b % 16) 0) (b % 16) (IsDigits-lower_digits (b % 16) (omega arith)) in
    rw (high, low, digits_kept bytes (λ k. small (suc k))) refl

encode-append : (xs ys : List ℕ) → encode_lower (xs ++ ys) ≡ encode_lower xs ++ encode_lower ys
unfolding encode_with
encode-append [] ys = refl
encode-append (x ∷ xs) ys = rw (encode-append xs ys) refl

lines_kept : (groups : List (List ℕ)) → filter (λ b. not (is_blank b)) (flat_map (group_text true) groups) ≡ encode_lower (packed_groups groups)
unfolding encode_with
lines_kept [] = refl
lines_kept (words ∷ groups) =
    let bytes : List ℕ = packed_group words in
    let test : ℕ → Bool = λ b. not (is_blank b) in
    filter-append test (encode_lower bytes ++ 10 ∷ []) (flat_map (group_text true) groups)
    ∙ ap₂ (λ (xs ys : List ℕ). xs ++ ys)
    (filter-append test (encode_lower bytes) (10 ∷ []) ∙ append-nil (filter test (encode_lower bytes)) ∙ digits_kept bytes (bytes_small 13 _))
    (lines_kept groups)
    ∙ sym (encode-append bytes (packed_groups groups))

-- the bytes that a list makes of what was written for groups
bytes_again : (hex : Bool) (groups : List (List ℕ)) → bytes_of (whole_input hex) (flat_map (group_text hex) groups) ≡ Ok (packed_groups groups)
bytes_again false groups = refl
bytes_again true groups =
    ap (λ (text : List ℕ). or_hex_text (decode_of text)) (lines_kept groups)
    ∙ ap or_hex_text (decode_of-encode_lower (packed_groups groups) (packed_small groups))

-- ---- rules in their ranges

-- a test that refused nothing
untested : {A : Type 0} (test : Bool) (error : RdsError) (rest : Result A RdsError) (made : A) → (if test then Err error else rest) ≡ Ok made
    → (test ≡ false) × (rest ≡ Ok made)
untested test error rest made is = grind (arith, common_steps)

pub record AreLawful (rules : RuleNumbers) : Type 0 where
  pub loss : IsLossRule rules.loss
  pub reach : 1 ≤ rules.reach
  pub near : rules.reach ≤ 8
  pub burst : rules.burst ≤ 5

loss_lawful : (asked loss : Loss) → loss_of asked ≡ Ok loss → IsLossRule loss
loss_lawful asked loss is = grind (arith, common_steps, untested, same-ok, nat_tests)

rules_lawful : (settings : Settings) (rules : RuleNumbers) → rules_of settings ≡ Ok rules → AreLawful rules
rules_lawful settings rules is =
    let burst = untested (nat_lt 5 settings.burst) BurstRange _ rules is in
    let reach = untested (nat_lt settings.reach 1 || nat_lt 8 settings.reach) ReachRange _ rules burst.1 in
    let loss = both (loss_of settings.loss) _ rules reach.1 in
    rw (← same-ok _ rules loss.2) (record {
      loss = loss_lawful settings.loss loss.0 loss.1;
      reach = grind (arith, nat_tests, reach.0);
      near = grind (arith, nat_tests, reach.0);
      burst = grind (arith, nat_tests, burst.0);
    })

pub plan_lawful : (settings : Settings) (plan : PlanOf) → plan_of settings ≡ Ok plan → AreLawful plan.rules
plan_lawful settings plan is =
    let ruled = both (rules_of settings) _ plan is in
    let made = both (crew_of settings) _ plan ruled.2 in
    rules_lawful settings plan.rules (ruled.1 ∙ ap (λ (p : PlanOf). Ok p.rules) (same-ok _ plan made.2))

-- ---- lists that were not refused

pub first_are : (bits : ℕ) (gaps : List (ℕ × ℕ)) (bytes : List ℕ) (recording : Signal) → first_bits bits gaps bytes ≡ Ok recording
    → record { bits = bits_of bytes bits; gaps = gaps } ≡ recording
first_are bits gaps bytes recording is = grind (arith, common_steps, untested, same-ok)

bits_of-length : (bytes : List ℕ) (bits : ℕ) → length (bits_of bytes bits) ≡ bits
bits_of-length bytes bits = length-map-range_with_len (packed_bit bytes) 0 bits

-- all bits of few enough bytes
all_taken : (bytes : List ℕ) → 8 * length bytes ≤ 2 ^ 36 → first_bits (8 * length bytes) [] bytes ≡ Ok (ungapped (bits_of bytes (8 * length bytes)))
all_taken bytes few = grind (arith, nat_tests)

cut_same : (cuts : Cuts) (recording cut : Signal) (fits : Bool) → cond fits (Ok recording) (Err BadCutting) ≡ Ok cut → recording ≡ cut
cut_same cuts recording cut fits is = grind (arith, common_steps, same-ok)

pub record IsListOf (input : Input) (settings : Settings) (held listing : List ℕ) : Type 0 where
  pub plan : PlanOf
  pub recording : Signal
  pub planned : plan_of settings ≡ Ok plan
  pub recorded : recording_of input held ≡ Ok recording
  pub is_listing : listing ≡ list_text plan.rules recording

pub list_of : (input : Input) (settings : Settings) (held listing : List ℕ) → result_of_job (job.List input settings) held ≡ Ok listing
    → IsListOf input settings held listing
list_of input settings held listing is =
    let asked = both (task_of (job.List input settings)) (λ task. text_of_task task held) listing is in
    let planned = both (plan_of settings) (λ plan. Ok (task.List input plan)) asked.0 asked.1 in
    let made = rw (← same-ok (task.List input planned.0) asked.0 planned.2) at asked.2 in
    let listed = both (cut_recording input planned.0.cuts held) (λ recording. Ok (list_text planned.0.rules recording)) listing made in
    let read = both (recording_of input held) (cut_by planned.0.cuts) listed.0 listed.1 in
    let same = cut_same planned.0.cuts read.0 listed.0 (cuts_bits planned.0.cuts (length_of read.0)) read.2 in
    record {
      plan = planned.0;
      recording = read.0;
      planned = planned.1;
      recorded = read.1;
      is_listing = sym (same-ok _ listing listed.2) ∙ ap (list_text planned.0.rules) (sym same);
    }

-- ---- groups that are encoded and then listed

module _ (sent : SentGroupsAreListed) (packed : PackedGroupsAreSent) where
  recorded_again : (hex : Bool) (groups : List (List ℕ)) (recording : Signal) → AreWords groups
      → recording_of (whole_input hex) (flat_map (group_text hex) groups) ≡ Ok recording → recording ≡ ungapped (bits_sent groups)
  recorded_again hex groups recording small is = grind (arith, common_steps, both, same-ok, bytes_again, first_are)

  pub encoded_groups_are_listed : EncodedGroupsAreListed
  encoded_groups_are_listed hex settings lines words groups listing spelled listed =
      let all : List (List ℕ) = words ∷ groups in
      let made = groups_spelled (lines_of lines) all spelled in
      let again = ap (λ (text : Result (List ℕ) RdsError). and_then text (result_of_job (job.List (whole_input hex) settings))) (sym (made.1 hex)) ∙ listed in
      let is = list_of (whole_input hex) settings (flat_map (group_text hex) all) listing again in
      let by = plan_lawful settings is.plan is.planned in
      let report = sent is.plan.rules words groups by.loss by.reach by.burst made.0 in
      is.is_listing ∙ ap (list_text is.plan.rules) (recorded_again hex all is.recording made.0 is.recorded) ∙ ap₂ report_text report.0 report.1

  -- as many bits as the groups have
  bits_sent-length : (groups : List (List ℕ)) → AreWords groups → length (bits_sent groups) ≡ 104 * length groups
  bits_sent-length groups small = grind (arith, common_steps, bits_of-length)

  pub encoded_groups_are_taken : EncodedGroupsAreTaken
  encoded_groups_are_taken hex settings plan lines groups planned spelled short fits =
      let made = groups_spelled (lines_of lines) groups spelled in
      let bytes : List ℕ = packed_groups groups in
      let long = (packed groups made.0).0 in
      let held : 8 * length bytes ≤ 2 ^ 36 = omega (arith, long, short) in
      let recorded : recording_of (whole_input hex) (flat_map (group_text hex) groups) ≡ Ok (ungapped (bits_sent groups)) =
      ap (λ (read : Result (List ℕ) RdsError). and_then read (λ all. first_bits (8 * length all) [] all)) (bytes_again hex groups)
      ∙ all_taken bytes held ∙ ap (λ (bits : List ℕ). Ok (ungapped bits)) (packed groups made.0).1 in
      let cut : cuts_bits plan.cuts (length (bits_sent groups)) ≡ true = rw (bits_sent-length groups made.0) fits in
      (list_text plan.rules (ungapped (bits_sent groups)), rw (made.1 hex, planned, recorded, cut) refl)

-- ---- lists, streams and totals

cut_alike : (made : Result Signal RdsError) (cuts : Cuts) (rules : RuleNumbers) → IfOk made (λ recording. cuts_bits cuts (length_of recording) ≡ true)
    → and_then made (λ recording. Ok (list_text rules recording)) ≡ and_then (and_then made (cut_by cuts)) (λ recording. Ok (list_text rules recording))
cut_alike made cuts rules fits = grind (arith, common_steps)

pub streams_are_listed : StreamsAreListed
streams_are_listed settings plan bits gaps held planned fits = grind (arith, common_steps, cut_alike)

module _ (input : Input) (held : List ℕ) where
  -- the rows of items come before the totals
  rows_before : (rules : RuleNumbers) (made : Result Signal RdsError)
      → (rows : List ℕ) × (and_then made (λ recording. Ok (list_text rules recording))
      ≡ and_then (and_then made (λ recording. Ok (totals_list rules recording))) (λ totals. Ok (rows ++ totals)))
  rows_before rules (Ok recording) = (flat_map item_row (report_items recording rules), refl)
  rows_before rules (Err e) = ([], refl)

  of_plan : (planned : Result PlanOf RdsError)
      → (rows : List ℕ) × (and_then (and_then planned (λ plan. Ok (task.List input plan))) (λ task. text_of_task task held)
      ≡ and_then (and_then (and_then planned (λ plan. Ok (task.Totals input plan))) (λ task. text_of_task task held)) (λ totals. Ok (rows ++ totals)))
  of_plan (Ok plan) = rows_before plan.rules (cut_recording input plan.cuts held)
  of_plan (Err e) = ([], refl)

pub lists_end_with_totals : ListsEndWithTotals
lists_end_with_totals input settings held = of_plan input held (plan_of settings)
