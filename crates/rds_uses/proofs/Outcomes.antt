-- The outcomes of jobs over the bits of bytes.
use Rattle.rds_uses.proofs.Names.{Bool, Err, Input, Job, List, ListsEndWithTotals, None, Ok, PlanOf, Result, RuleNumbers, Settings, Signal, Some, RdsError, Writes, WritesPrefix, [], ap, append-nil, ap₂, arith, cond, crew_of, false, groups_in, length, length_of, list_text, plan_of, refl, result_of_job, rows_so_far, sent_listing, stream_input, subst, sym, whole_input, ℕ, ◌*◌, ◌++◌, ◌^◌, ◌∙◌, ◌∷◌, ◌≡◌, ◌≤◌}
use Rattle.rds_uses.specs.Jobs.{IsListBy, all_bits, plain}
use Rattle.std.proofs.lemmas.Bool.Decides.{nat_tests}
use Rattle.rds_tool.proofs.JobLaws.{both, list_of, same-ok}
use Rattle.rds_tool.specs.{Input.recording_of, Laws.EncodedGroupsAreListed, Rules.rules_of, WellFormed.DifferInGaps, WellFormed.GapsHideBits, WellFormed.IsWellFormed, WellFormed.ListsAreWellFormed, WellFormed.RowsBeginLists}
use Rattle.rds_tool.specs.declared.job.Job.TheVariants as job
use Rattle.rds_tool.specs.declared.task.Task.TheVariants as task

pub all_bits-few : (bytes : List ℕ) → 8 * length bytes ≤ 2 ^ 36 → recording_of plain bytes ≡ Ok (all_bits bytes)
all_bits-few bytes few = grind (arith, nat_tests)

-- what a writer holds afterwards is what it held before and the text
pub added : (result_of_job : Result (List ℕ) RdsError) (old new : List ℕ) → Writes (Some old) (Some new) result_of_job
    → (more : List ℕ) × (result_of_job ≡ Ok more) × (new ≡ old ++ more)
added (Ok text) old new is = (text, refl, is)
added (Err e) old new is = absurd is

-- a vector that a sink gives back: what it held before the sink was made, and then what the sink took
module _ (out : List ℕ → Result (List ℕ) RdsError) (given bytes first begun taken last taken' text : List ℕ) (all : given ≡ bytes) (same : begun ≡ first)
    (none : taken ≡ []) (tied : text ≡ last ++ taken') where
  before : begun ++ taken ≡ first
  before = ap₂ (λ x y. x ++ y) same none ∙ append-nil first

  pub given_back : Writes (Some (begun ++ taken)) (Some (last ++ taken')) (out given) → Writes (Some first) (Some text) (out bytes)
  given_back w = rw (tied, ← before, ← all) w

  pub prefix_back : WritesPrefix (Some (begun ++ taken)) (Some (last ++ taken')) (out given)
      → (more : List ℕ) × (rest : List ℕ) × (out bytes ≡ Ok (more ++ rest)) × (text ≡ first ++ more)
  prefix_back w =
      let there : WritesPrefix (Some first) (Some text) (out bytes) = rw (tied, ← before, ← all) w in parted (out bytes) there
    where
      parted : (r : Result (List ℕ) RdsError) → WritesPrefix (Some first) (Some text) r → (more : List ℕ) × (rest : List ℕ) × (r ≡ Ok (more ++ rest)) × (text ≡ first ++ more)
      parted (Ok whole) (more, rest, split, wrote) = (more, rest, ap Ok split, wrote)
      parted (Err e) wrote = absurd wrote

-- what a listing writes into an empty writer
pub listed : (bytes new : List ℕ) (rules : RuleNumbers) (asked : Job) → 8 * length bytes ≤ 2 ^ 36 → IsListBy asked rules → result_of_job asked bytes ≡ Ok new
    → new ≡ list_text rules (all_bits bytes)
listed bytes new rules asked few by is =
    let list = list_of plain by.0 bytes new (rw by.1 at is) in
    let ruled = both (rules_of by.0) _ list.plan list.planned in
    let made = both (crew_of by.0) _ list.plan ruled.2 in
    let same : list.plan.rules ≡ rules = ap (λ (p : PlanOf). p.rules) (sym (same-ok _ list.plan made.2)) ∙ same-ok ruled.0 rules (sym ruled.1 ∙ by.2) in
    list.is_listing ∙ ap₂ list_text same (same-ok list.recording (all_bits bytes) (sym list.recorded ∙ all_bits-few bytes few))

-- ---- laws of jobs

-- a list of what was encoded
pub sent-text : EncodedGroupsAreListed → (hex : Bool) (settings : Settings) (encode list : Job) (lines bytes held listing : List ℕ)
    → encode ≡ job.Encode hex → list ≡ job.List (whole_input hex) settings → held ≡ bytes
    → result_of_job encode lines ≡ Ok bytes → result_of_job list held ≡ Ok listing
    → (words : List ℕ) (groups : List (List ℕ)) → groups_in lines ≡ Ok (words ∷ groups) → listing ≡ sent_listing words groups
sent-text law hex settings encode list lines bytes held listing first next same encoded listed words groups spelled =
    law hex settings lines words groups listing spelled (rw (rw first at encoded, ← same) (rw next at listed))

-- a list and the totals of the same bytes
pub before-totals : ListsEndWithTotals → (input : Input) (settings : Settings) (list totals : Job) (held listing counts : List ℕ)
    → list ≡ job.List input settings → totals ≡ job.Totals input settings → result_of_job list held ≡ Ok listing → result_of_job totals held ≡ Ok counts
    → (rows : List ℕ) × (listing ≡ rows ++ counts)
before-totals law input settings list totals held listing counts first next listed counted =
    let ends = law input settings held in (ends.0, same-ok listing (ends.0 ++ counts) (rw (rw first at listed, rw next at counted) at ends.1))

-- ---- lists that were written, by the laws of their rows

pub well-formed : ListsAreWellFormed → (asked : Job) (held listing : List ℕ) → result_of_job asked held ≡ Ok listing
    → (input : Input) (settings : Settings) → asked ≡ job.List input settings
    → (recording : Signal) × (recording_of input held ≡ Ok recording) × IsWellFormed (length_of recording) listing
well-formed law asked held listing written input settings is =
    law input settings held listing (subst (λ (j : Job). result_of_job j held ≡ Ok listing) is written)

pub alike : GapsHideBits → (asked : Job) (input : Input) (settings : Settings) (held other one two : List ℕ) → asked ≡ job.List input settings → input.hex ≡ false
    → DifferInGaps input.gaps held other → result_of_job asked held ≡ Ok one → result_of_job asked other ≡ Ok two → one ≡ two
alike law asked input settings held other one two is bytes differ first second =
    same-ok one two (sym (rw is at first) ∙ sym (law input settings held other bytes differ).0 ∙ rw is at second)

pub begun : RowsBeginLists → (asked : Job) (held listing : List ℕ) → result_of_job asked held ≡ Ok listing
    → (settings : Settings) (plan : PlanOf) (gaps : List (ℕ × ℕ)) (heard more : List ℕ) → asked ≡ job.List (stream_input None gaps) settings
    → plan_of settings ≡ Ok plan → held ≡ heard ++ more
    → (rest : List ℕ) × (listing ≡ rows_so_far (record { rules = plan.rules; gaps = gaps }) heard ++ rest)
begun law asked held listing written settings plan gaps heard more is planned split =
    let here = subst (λ (bytes : List ℕ). result_of_job (job.List (stream_input None gaps) settings) bytes ≡ Ok listing) split
    (subst (λ (j : Job). result_of_job j held ≡ Ok listing) is written) in
    let rows = law settings plan gaps heard more listing planned here in
    (_, rows.1)
