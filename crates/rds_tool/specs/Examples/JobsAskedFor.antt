-- The jobs that words ask for, and the answers allowed if they ask for help, have a fault, or ask for a job.
use Rattle.std.specs.Prelude.{◌≡◌, Bool, Err, List, None, Ok, Option, Some, [], ◌∷◌, codes, false, map, refl, true}
use Rattle.std.{proofs.Common.ap, proofs.Common.inl, proofs.Common.inr, proofs.Common.sym, proofs.lemmas.Bool.false≢true, specs.Result.result_ok}
use Rattle.clap.specs.{Takes.flags_pass, Takes.walk_passes, Faults.defaults_fault, Faults.flags_fault, Faults.walk_fault, Walk.bundle_met, Walk.walked, Words.Kinds, Words.Text, declared.error.kind.ErrorKind.ErrorKind}
use Rattle.clap.specs.declared.error.kind.ErrorKind.TheVariants as kind
use Rattle.rds_sync.specs.{Rules.RuleNumbers, declared.loss.Loss.TheVariants.Run, declared.loss.Loss.TheVariants.Share}
use Rattle.rds_tool.specs.{CommandLine.MayAnswer, CommandLine.asked_by, CommandLine.entries_of, CommandLine.faults_of, CommandLine.is_true, CommandLine.job_by, CommandLine.number_up_to, declared.fault.FaultKind.FaultKind, declared.fault.FaultKind.TheVariants.Help, declared.fault.FaultKind.TheVariants.Memory, declared.fault.FaultKind.TheVariants.Version, declared.fault.FaultKind.TheVariants.Words, declared.job.Asked.Asked, declared.job.Job.Job, declared.job.Job.TheVariants.Encode, declared.job.Job.TheVariants.List as ListJob, declared.job.Job.TheVariants.Scan, declared.job.Job.TheVariants.Totals, declared.job.Request.Request, declared.job.Request.TheVariants.Job as AskedJob, declared.job.Request.TheVariants.Follow, declared.job.Request.TheVariants.FollowSoft, Examples.CommandLines.each_option, Examples.Words.default_settings, Examples.Words.hex_bits, Examples.Words.raw_bits, Examples.Words.raw_input, Examples.Words.settings_of, Examples.Words.share_settings}
use Rattle.rds_tool.specs.declared.fault.NoJob.TheVariants as no
use Rattle.rds_tool.specs.declared.job.Ignored.TheVariants as ignored

-- ---- entries

-- after a plus or not, below 2^32, and of digits only
pub numbers : map (number_up_to 4294967295)
    (codes "0" ∷ codes "+7" ∷ codes "25" ∷ codes "4294967295" ∷ codes "4294967296" ∷ codes "-1" ∷ codes "7a" ∷ codes "+" ∷ [] ∷ [])
    ≡ Some 0 ∷ Some 7 ∷ Some 25 ∷ Some 4294967295 ∷ None ∷ None ∷ None ∷ None ∷ None ∷ []
numbers = refl

pub flags : map is_true (Some (codes "true") ∷ Some (codes "false") ∷ Some (codes "tru") ∷ None ∷ [])
    ≡ true ∷ false ∷ false ∷ false ∷ []
flags = refl

-- ---- requests

-- these words after the name of the program ask for these
abbrev pub AskFor : List (List Text × Asked) → Type 0
AskFor rows = map (λ row. asked_by (entries_of (codes "rds" ∷ row.0))) rows ≡ map (λ row. Ok row.1) rows

abbrev pub only : Request → Asked
only request = record { request = request; ignored = None }

-- a job whose progress is not told
abbrev pub silent : Job → Asked
silent job = only (AskedJob job false)

-- a scan is made by four workers, if the words say no number; to encode has no progress
pub jobs : AskFor (
    (codes "scan" ∷ [], silent (Scan raw_input 4))
    ∷ (codes "scan" ∷ codes "--workers" ∷ codes "+7" ∷ [], silent (Scan raw_input 7))
    ∷ (codes "scan" ∷ codes "--bits=104" ∷ codes "--progress" ∷ [], only (AskedJob (Scan (raw_bits 104) 4) true))
    ∷ (codes "scan" ∷ codes "--gaps" ∷ codes "104-105,120-130" ∷ [], silent (Scan (record raw_input { gaps = (104, 105) ∷ (120, 130) ∷ [] }) 4))
    ∷ (codes "list" ∷ [], silent (ListJob raw_input default_settings))
    ∷ (codes "encode" ∷ codes "--hex" ∷ [], silent (Encode true))
    ∷ []
    )
unfolding walked
jobs = refl

abbrev pub totals_job : Job
totals_job = Totals (hex_bits 0) (settings_of 1 4 5 7 6)

pub totals : asked_by (entries_of each_option) ≡ Ok (only (AskedJob totals_job true))
unfolding walked
totals = refl

abbrev pub default_rules : RuleNumbers
default_rules = record { burst = 2; reach = 3; loss = Run 10 }

pub streams : AskFor (
    (codes "follow" ∷ [], only (Follow raw_input default_rules 1))
    ∷ (codes "follow" ∷ codes "--share=9" ∷ codes "--of" ∷ codes "12" ∷ [], only (Follow raw_input (record default_rules { loss = Share 9 12 }) 1))
    ∷ (codes "follow" ∷ codes "--workers=4" ∷ [], only (Follow raw_input default_rules 4))
    ∷ (codes "follow" ∷ codes "--soft" ∷ codes "--workers=4" ∷ [], only (FollowSoft raw_input default_rules 32 4))
    ∷ (codes "follow" ∷ codes "--margin=20" ∷ codes "--soft" ∷ [], only (FollowSoft raw_input default_rules 20 1))
    ∷ []
    )
unfolding walked
streams = refl

-- the option that they give in vain: a default does not count, and the same number given does. Only the options of the rule
-- asked for count
pub in_vain : AskFor (
    (codes "list" ∷ codes "--share" ∷ codes "2" ∷ [], silent (ListJob raw_input (share_settings 2 2 64 4)))
    ∷ (codes "list" ∷ codes "--of" ∷ codes "3" ∷ codes "--share" ∷ codes "2" ∷ [], silent (ListJob raw_input (share_settings 2 2 3 4)))
    ∷ (codes "list" ∷ codes "--loss" ∷ codes "5" ∷ [], silent (ListJob raw_input (settings_of 2 3 5 4 16)))
    ∷ (
      codes "list" ∷ codes "--share" ∷ codes "2" ∷ codes "--loss" ∷ codes "10" ∷ [],
      record { request = AskedJob (ListJob raw_input (share_settings 2 2 64 4)) false; ignored = Some ignored.Loss },
    )
    ∷ (
      codes "totals" ∷ codes "--of=64" ∷ [],
      record { request = AskedJob (Totals raw_input default_settings) false; ignored = Some ignored.Of },
    )
    ∷ []
    )
unfolding walked
in_vain = refl

-- a stream is no job
pub only_a_job : map (λ words. job_by (entries_of (codes "rds" ∷ words)))
    ((codes "scan" ∷ []) ∷ (codes "follow" ∷ []) ∷ [])
    ≡ Some (Scan raw_input 4) ∷ None ∷ []
unfolding walked
only_a_job = refl

-- ---- gaps that are none

abbrev pub for_bad_gaps : List Text
for_bad_gaps = codes "rds" ∷ codes "scan" ∷ codes "--gaps" ∷ codes "5" ∷ []

-- such words ask for nothing, though they have no other fault; without words nothing is asked for
pub nothing : map (λ words. asked_by (entries_of words))
    (for_bad_gaps ∷ (codes "rds" ∷ codes "follow" ∷ codes "--gaps=" ∷ []) ∷ (codes "rds" ∷ []) ∷ [])
    ≡ Err no.Gaps ∷ Err no.Gaps ∷ Err no.Entries ∷ []
unfolding walked
nothing = refl

pub no_fault_of_gaps : faults_of for_bad_gaps ≡ []
unfolding walked bundle_met flags_pass walk_passes flags_fault walk_fault defaults_fault
no_fault_of_gaps = refl

-- ---- answers that are no job

abbrev pub is_help : ErrorKind → Bool
is_help kind.DisplayHelp = true
is_help other = false

abbrev pub is_version : ErrorKind → Bool
is_version kind.DisplayVersion = true
is_version other = false

abbrev pub is_memory : ErrorKind → Bool
is_memory kind.OutOfMemory = true
is_memory other = false

abbrev pub is_empty : List ErrorKind → Bool
is_empty [] = true
is_empty (k ∷ ks) = false

-- whether these words may be answered so
abbrev pub MayBeAnswered : List Text → FaultKind → Type 0
MayBeAnswered words answer = MayAnswer (faults_of words) (result_ok (asked_by (entries_of words))) answer

-- whether such faults may be answered so, if nothing is asked for
abbrev pub Without : Kinds → FaultKind → Type 0
Without faults answer = let none : Option Asked = None in MayAnswer faults none answer

abbrev pub for_help : List Text
for_help = codes "rds" ∷ codes "scan" ∷ codes "--help" ∷ []

pub help : MayBeAnswered for_help Help
unfolding walked bundle_met flags_pass walk_passes flags_fault walk_fault defaults_fault
help = inl refl

-- help is no fault of the words
pub no_fault_of_help : Without (faults_of for_help) Words → ⊥
unfolding walked bundle_met flags_pass walk_passes flags_fault walk_fault defaults_fault
no_fault_of_help (inl (k, is_fault, inl is)) = is_fault.0 is
no_fault_of_help (inl (k, is_fault, inr other)) = other
no_fault_of_help (inr (no_faults, without)) = false≢true (ap is_empty no_faults)

abbrev pub for_version : List Text
for_version = codes "rds" ∷ codes "--version" ∷ []

pub version : MayBeAnswered for_version Version
unfolding walked bundle_met flags_pass walk_passes flags_fault walk_fault defaults_fault
version = inl refl

-- nor is the version, and neither is the other
pub no_fault_of_version : Without (faults_of for_version) Words → ⊥
unfolding walked bundle_met flags_pass walk_passes flags_fault walk_fault defaults_fault
no_fault_of_version (inl (k, is_fault, inl is)) = is_fault.1 is
no_fault_of_version (inl (k, is_fault, inr other)) = other
no_fault_of_version (inr (no_faults, without)) = false≢true (ap is_empty no_faults)

pub no_help_by_version : Without (faults_of for_version) Help → ⊥
unfolding walked bundle_met flags_pass walk_passes flags_fault walk_fault defaults_fault
no_help_by_version (inl is) = false≢true (sym (ap is_help is))
no_help_by_version (inr other) = other

pub no_version_by_help : Without (faults_of for_help) Version → ⊥
unfolding walked bundle_met flags_pass walk_passes flags_fault walk_fault defaults_fault
no_version_by_help (inl is) = false≢true (sym (ap is_version is))
no_version_by_help (inr other) = other

abbrev pub no_command : List Text
no_command = codes "rds" ∷ []

pub fault : MayBeAnswered no_command Words
unfolding walked bundle_met flags_pass walk_passes flags_fault walk_fault defaults_fault
fault = inl (
  kind.MissingSubcommand,
  (
    (λ is. false≢true (ap is_help is)),
    (λ is. false≢true (ap is_version is)),
    (λ is. false≢true (ap is_memory is)),
  ),
  inl refl,
)

pub no_help : MayBeAnswered no_command Help → ⊥
unfolding walked bundle_met flags_pass walk_passes flags_fault walk_fault defaults_fault
no_help (inl is) = false≢true (sym (ap is_help is))
no_help (inr other) = other

-- words without a fault that yet ask for nothing
pub no_job : MayBeAnswered for_bad_gaps Words
unfolding walked bundle_met flags_pass walk_passes flags_fault walk_fault defaults_fault
no_job = inr (refl, refl)

-- if there is a job, neither help nor a refusal of the words may be answered
pub not_help : MayBeAnswered each_option Help → ⊥
unfolding walked bundle_met flags_pass walk_passes flags_fault walk_fault defaults_fault
not_help among = among

abbrev pub is_none : Option Asked → Bool
is_none None = true
is_none (Some asked) = false

pub not_words : MayBeAnswered each_option Words → ⊥
unfolding walked bundle_met flags_pass walk_passes flags_fault walk_fault defaults_fault
not_words (inl (k, is_fault, among)) = among
not_words (inr (faultless, none)) = false≢true (ap is_none none)

pub memory : Without [] Memory
memory = tt
