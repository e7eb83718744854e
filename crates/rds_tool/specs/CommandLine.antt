-- The command line, as `clap` reads it, and the job or stream that its words ask for: this project's rule.
-- `asked_of` answers it; `rds_command` and the functions of `entries.rt` are its steps.
use Rattle.std.specs.Prelude.{◌≡◌, ◌≢◌, ◌⊎◌, ◌++◌, ⊤, Bool, Err, IfOk, List, None, Ok, Option, Result, Some, [], codes, false, find, if◌then◌else◌, nat_le, option_and_then, pos, ◌&&◌, string_bytes, true, ℕ, ◌∷◌}
use Rattle.std.specs.{Str.bytes_eq, Option.ok_or, Option.option_map, Result.result_ok, Str.Parse.digits_value, Str.Parse.without_leading_plus}
use Rattle.clap.specs.Words.{App, IsAmong, Kinds, Row, Rule, Shape, Text, app_of, fault_of, first_of, new_rule, one_of, subcommand_of}
use Rattle.clap.specs.{Simple.new_shape, ValueTests.is_unsigned_in, declared.builder.action.ArgAction.TheVariants.Set, declared.builder.action.ArgAction.TheVariants.SetTrue, declared.builder.command.Command.Command, declared.builder.command.Command.TheViews.out-Command as fields_of, declared.builder.value_parser.ValueParser.ValueParser, declared.error.kind.ErrorKind.ErrorKind, declared.parser.matches.ValueSource.ValueSource, declared.parser.matches.ValueSource.TheVariants.CommandLine}
use Rattle.clap.specs.declared.builder.value_parser.ValueParser.TheVariants as parser
use Rattle.clap.specs.declared.error.kind.ErrorKind.TheVariants as kind
use Rattle.rds_sync.specs.{Rules.RuleNumbers, declared.loss.Loss.Loss, declared.loss.Loss.TheVariants.Run, declared.loss.Loss.TheVariants.Share}
use Rattle.rds_tool.specs.{GapText.gaps_of, declared.fault.CliFault.CliFault, declared.fault.FaultKind.FaultKind, declared.fault.FaultKind.TheVariants.Help, declared.fault.FaultKind.TheVariants.Memory, declared.fault.FaultKind.TheVariants.Version, declared.fault.FaultKind.TheVariants.Words, declared.fault.NoJob.NoJob, declared.job.Asked.Asked, declared.job.Cuts.TheVariants.Even, declared.job.Ignored.Ignored, declared.job.Input.Input, declared.job.Job.Job, declared.job.Request.Request, declared.job.Request.TheVariants.Job as AskedJob, declared.job.Request.TheVariants.Follow, declared.job.Request.TheVariants.FollowSoft, declared.job.Settings.Settings, declared.job.Job.TheVariants.Encode, declared.job.Job.TheVariants.List as ListJob, declared.job.Job.TheVariants.Scan, declared.job.Job.TheVariants.Soft, declared.job.Job.TheVariants.Totals}
use Rattle.rds_tool.specs.declared.fault.NoJob.TheVariants as no
use Rattle.rds_tool.specs.declared.job.Ignored.TheVariants as ignored

-- ---- the input of a command

-- the command parses words as `reads` describes, and none of its options is global
pub record ReadsAs (command : Command) (reads : App) : Type 0 where
  pub app : app_of command ≡ reads
  pub local : (fields_of command).has_globals ≡ false

-- if a command was made, it parses words as `app` describes
abbrev pub Makes : {E : Type 0} → Result Command E → App → Type 0
Makes made app = IfOk made (λ command. ReadsAs command app)

-- ---- the commands and their options

-- `--name`, with one value that its parser takes, and with these defaults
abbrev pub value_rule : Text → ValueParser → List Text → Rule
value_rule name takes defaults =
    record (new_rule name) { long = Some name; action = Some Set; value_names = 1; parser = Some takes; defaults = defaults }

-- the option `--name` with a number below 2^32
abbrev pub number_rule : Text → List Text → Rule
number_rule name defaults = value_rule name (parser.Signed (pos 0) (pos 4294967295)) defaults

abbrev pub flag_rule : Text → Rule
flag_rule name = record (new_rule name) { long = Some name; action = Some SetTrue; parser = Some parser.Bool }

-- `--bits`, the number of bits, at most 2^40 (more than 2^36 is refused later, as error 5); `--gaps`, the ranges of bits
-- without meaning
abbrev pub bits_and_gaps : List Rule
bits_and_gaps = value_rule (codes "bits") (parser.Unsigned 0 1099511627776) [] ∷ value_rule (codes "gaps") parser.String [] ∷ []

-- the options for the rules of sync
abbrev pub sync_options : List Rule
sync_options =
    number_rule (codes "burst") (codes "2" ∷ []) ∷ number_rule (codes "reach") (codes "3" ∷ [])
    ∷ number_rule (codes "loss") (codes "10" ∷ []) ∷ number_rule (codes "share") [] ∷ number_rule (codes "of") (codes "64" ∷ []) ∷ []

-- `--workers`, the number of threads; `--progress`, which shows progress
abbrev pub worker_options : List Rule
worker_options = number_rule (codes "workers") (codes "4" ∷ []) ∷ flag_rule (codes "progress") ∷ []

-- `--soft`, whose input is symbols; `--margin`, 1 to 127, beside it
abbrev pub soft_options : List Rule
soft_options = flag_rule (codes "soft") ∷ value_rule (codes "margin") (parser.Signed (pos 1) (pos 127)) (codes "32" ∷ []) ∷ []

abbrev pub report_options : List Rule
report_options =
    flag_rule (codes "hex") ∷ bits_and_gaps ++ sync_options ++ number_rule (codes "pieces") (codes "16" ∷ [])
    ∷ worker_options ++ soft_options

-- `follow` reads raw bytes as they arrive, by one thread unless more are asked for
abbrev pub follow_options : List Rule
follow_options = bits_and_gaps ++ sync_options ++ number_rule (codes "workers") (codes "1" ∷ []) ∷ soft_options

-- the command `name` with these options
abbrev pub command_shape : Text → List Rule → Shape
command_shape name options = record (new_shape name) { rules = options }

-- the program, which has a version and wants a command
abbrev pub rds_app : App
rds_app = record {
  top = record (new_shape (codes "rds")) { is_leaf = false; has_version = true; subcommand_required = true };
  subs =
      command_shape (codes "scan") (flag_rule (codes "hex") ∷ bits_and_gaps ++ worker_options) ∷ command_shape (codes "list") report_options
      ∷ command_shape (codes "follow") follow_options ∷ command_shape (codes "totals") report_options
      ∷ command_shape (codes "encode") (flag_rule (codes "hex") ∷ []) ∷ [];
}

-- ---- the entries that the words give

-- the command that the words name, with the entries of its options, defaults too
abbrev pub entries_of : List Text → Option (Text × List Row)
entries_of words = subcommand_of rds_app words

-- the kinds of fault that `clap` finds in the words, none if it takes them
abbrev pub faults_of : List Text → Kinds
faults_of words = fault_of rds_app words

-- the number that a text spells in decimal digits, with or without a plus before them, if it is at most `most`
abbrev pub number_up_to : ℕ → Text → Option ℕ
number_up_to most text = if is_unsigned_in 0 most text then Some (digits_value 10 (without_leading_plus text)) else None

-- the number of an option's entry, below 2^32
abbrev pub number_of : Text → List Row → Option ℕ
number_of name rows = option_and_then (number_up_to 4294967295) (one_of name rows)

-- a number that may be left out: `Some None` if there is no entry, `None` if its text is no such number
abbrev pub if_given : ℕ → Option Text → Option (Option ℕ)
if_given most None = Some None
if_given most (Some text) = option_map (λ n. Some n) (number_up_to most text)

abbrev pub is_true : Option Text → Bool
is_true None = false
is_true (Some text) = bytes_eq text (codes "true")

abbrev pub flag_of : Text → List Row → Bool
flag_of name rows = is_true (first_of name rows)

-- the gaps that a text spells, and none if there is no text
abbrev pub gaps_spelled : Option Text → Option (List (ℕ × ℕ))
gaps_spelled None = Some []
gaps_spelled (Some text) = gaps_of text

-- the gaps of the entry `--gaps`: `Some []` if it is not given, `None` if its text cannot be parsed
abbrev pub gaps_asked_for : List Row → Option (List (ℕ × ℕ))
gaps_asked_for rows = gaps_spelled (first_of (codes "gaps") rows)

-- the rule of loss: a share by `--share` and `--of` if `--share` is given, else `--loss` bad blocks in a row
abbrev pub loss_by : List Row → Option ℕ → Option Loss
loss_by rows None = option_map Run (number_of (codes "loss") rows)
loss_by rows (Some bad) = option_map (Share bad) (number_of (codes "of") rows)

abbrev pub loss_of : List Row → Option Loss
loss_of rows = option_and_then (loss_by rows) (if_given 4294967295 (one_of (codes "share") rows))

abbrev pub is_of_words : Option ValueSource → Bool
is_of_words (Some CommandLine) = true
is_of_words other = false

-- the words gave the option, not only its default
abbrev pub is_given : Text → List Row → Bool
is_given name rows = is_of_words (option_and_then (λ row. row.source) (find (λ row. bytes_eq row.id name) rows))

-- the option that the words give and the rule of loss leaves out: `--loss` beside `--share`, or `--of` without it
abbrev pub ignored_by : List Row → Option Ignored
ignored_by rows =
    if is_given (codes "share") rows
    then (if is_given (codes "loss") rows then Some ignored.Loss else None)
    else (if is_given (codes "of") rows then Some ignored.Of else None)

-- the warning about the ignored option
abbrev pub warning_of : Ignored → Text
warning_of ignored.Loss = codes "--loss is ignored with --share"
warning_of ignored.Of = codes "--of is ignored without --share"

-- the numbers of the rules of sync
abbrev pub rules_of : List Row → Option RuleNumbers
rules_of rows =
    option_and_then (λ burst. option_and_then (λ reach. option_map (λ loss.
    record { burst = burst; reach = reach; loss = loss }) (loss_of rows))
    (number_of (codes "reach") rows)) (number_of (codes "burst") rows)

abbrev pub settings_of : List Row → Option Settings
settings_of rows =
    option_and_then (λ rules. option_and_then (λ workers. option_map (λ pieces.
    record { burst = rules.burst; reach = rules.reach; loss = rules.loss; workers = workers; cuts = Even pieces })
    (number_of (codes "pieces") rows)) (number_of (codes "workers") rows)) (rules_of rows)

-- the number, if it is in the range
abbrev pub number_within : ℕ → ℕ → Option ℕ → Option ℕ
number_within least most None = None
number_within least most (Some n) = if nat_le least n && nat_le n most then Some n else None

-- the job, with its progress shown if `--progress` is given
abbrev pub with_progress : List Row → Job → Request
with_progress rows job = AskedJob job (flag_of (codes "progress") rows)

-- the margin of symbols: `Some None` if `--soft` is not given
abbrev pub margin_of : List Row → Option (Option ℕ)
margin_of rows =
    if flag_of (codes "soft") rows then option_map (λ n. Some n) (number_within 1 127 (number_of (codes "margin") rows)) else Some None

-- the job of these settings: a list if rows are asked for, or only its totals; of symbols if there is a margin
abbrev pub job_with : Bool → Input → Settings → Option ℕ → Job
job_with true input settings None = ListJob input settings
job_with false input settings None = Totals input settings
job_with has_rows input settings (Some margin) = Soft input settings margin has_rows

abbrev pub report_job_of : List Row → Bool → Input → Option Job
report_job_of rows has_rows input =
    option_and_then (λ settings. option_map (job_with has_rows input settings) (margin_of rows)) (settings_of rows)

-- the stream of these numbers; of symbols if there is a margin
abbrev pub stream_with : Input → RuleNumbers → ℕ → Option ℕ → Request
stream_with input rules workers None = Follow input rules workers
stream_with input rules workers (Some margin) = FollowSoft input rules margin workers

-- the stream of its entries
abbrev pub stream_of : Input → List Row → Option Request
stream_of input rows =
    option_and_then (λ rules. option_and_then (λ workers. option_map (stream_with input rules workers) (margin_of rows))
    (number_of (codes "workers") rows)) (rules_of rows)

-- the job or stream of a command and its entries, over this input
abbrev pub request_of : Text → List Row → Input → Option Request
request_of name rows input =
    if bytes_eq name (codes "scan") then option_map (λ workers. with_progress rows (Scan input workers)) (number_of (codes "workers") rows)
    else if bytes_eq name (codes "list") then option_map (with_progress rows) (report_job_of rows true input)
    else if bytes_eq name (codes "totals") then option_map (with_progress rows) (report_job_of rows false input)
    else if bytes_eq name (codes "follow") then stream_of input rows
    else if bytes_eq name (codes "encode") then Some (with_progress rows (Encode input.hex))
    else None

-- the request of a command, over the input that its entries and these gaps give
abbrev pub request_with : Text → List Row → List (ℕ × ℕ) → Option Request
request_with name rows gaps =
    option_and_then (λ bits. request_of name rows (record { hex = flag_of (codes "hex") rows; bits = bits; gaps = gaps }))
    (if_given 18446744073709551615 (one_of (codes "bits") rows))

-- the fault of options that cannot be used together: `--hex` or `--burst` beside `--soft`, or `--margin` without it
abbrev pub misuse_by : List Row → Option NoJob
misuse_by rows =
    if flag_of (codes "soft") rows
    then (if flag_of (codes "hex") rows then Some no.SoftHex else if is_given (codes "burst") rows then Some no.SoftBurst else None)
    else (if is_given (codes "margin") rows then Some no.HardMargin else None)

-- the request and the option that is ignored, or why there is no request
abbrev pub asked_with : Text → List Row → Option (List (ℕ × ℕ)) → Result Asked NoJob
asked_with name rows None = Err no.Gaps
asked_with name rows (Some gaps) = elim (misuse_by rows) [
  | Some why ↦ Err why
  | None ↦ ok_or (option_map (λ request. record { request = request; ignored = ignored_by rows }) (request_with name rows gaps)) no.Entries
]

-- the request of a command and its entries, or the fault: bad gaps come before any other
abbrev pub asked_by : Option (Text × List Row) → Result Asked NoJob
asked_by None = Err no.Entries
asked_by (Some entries) = asked_with entries.0 entries.1 (gaps_asked_for entries.1)

-- the gaps cannot be parsed
abbrev pub HasBadGaps : Option (Text × List Row) → Type 0
HasBadGaps entries = asked_by entries ≡ Err no.Gaps

-- the job of a request: a stream is none
abbrev pub job_in : Request → Option Job
job_in (AskedJob job progress) = Some job
job_in (Follow input rules workers) = None
job_in (FollowSoft input rules margin workers) = None

-- the job that a command and its entries ask for, if any
abbrev pub job_by : Option (Text × List Row) → Option Job
job_by entries = option_and_then (λ asked. job_in asked.request) (result_ok (asked_by entries))

-- ---- the answer

-- the answer is the computed one, or memory was refused
abbrev pub Gives : {T : Type 0} → Result T NoJob → Result T NoJob → Type 0
Gives computed (Ok value) = computed ≡ Ok value
Gives computed (Err why) = (why ≡ no.Memory) ⊎ (computed ≡ Err why)

-- a fault of the words: neither help nor the version, and memory was not refused
abbrev pub IsFault : ErrorKind → Type 0
IsFault k = (k ≢ kind.DisplayHelp) × (k ≢ kind.DisplayVersion) × (k ≢ kind.OutOfMemory)

-- whether this kind of answer is allowed, by the faults that `clap` finds and the request `asked`. Help and the version
-- must be asked for. A refusal of the words needs a fault, or words without fault and without request. `Memory` is
-- always allowed.
abbrev pub MayAnswer : {T : Type 0} → Kinds → Option T → FaultKind → Type 0
MayAnswer faults asked Help = IsAmong kind.DisplayHelp faults
MayAnswer faults asked Version = IsAmong kind.DisplayVersion faults
MayAnswer faults asked Words = ((k : ErrorKind) × IsFault k × IsAmong k faults) ⊎ ((faults ≡ []) × (asked ≡ None))
MayAnswer faults asked Memory = ⊤

-- the fault has the text that is shown if the gaps can't be parsed, or memory was refused
abbrev pub SaysBadGaps : CliFault → Type 0
SaysBadGaps fault = (fault.kind ≡ Memory) ⊎ ((fault.kind ≡ Words) × (string_bytes fault.text ≡ codes "bad --gaps" ++ 10 ∷ []))
