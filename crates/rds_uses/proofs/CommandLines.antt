-- Command lines as `clap` reads them.
use Rattle.rds_uses.proofs.Names.{Err, IfOk, Job, List, None, Ok, OnOk, Result, Share, Some, [], ap, codes, false, inl, inr, refl, result_ok, ◌∷◌, ◌≡◌, ◌⊎◌}
use Rattle.clap.specs.{Faults.defaults_fault, Faults.flags_fault, Faults.walk_fault, Takes.flags_pass, Takes.walk_passes, Walk.bundle_met, Walk.walked, Words.Text, declared.error.kind.ErrorKind.ErrorKind}
use Rattle.clap.specs.declared.error.kind.ErrorKind.TheVariants as kind
use Rattle.rds_tool.specs.{CommandLine.HasBadGaps, CommandLine.MayAnswer, CommandLine.asked_by, CommandLine.entries_of, CommandLine.faults_of, CommandLine.job_by, declared.fault.FaultKind.FaultKind, declared.fault.FaultKind.TheVariants.Help, declared.fault.FaultKind.TheVariants.Memory, declared.fault.FaultKind.TheVariants.Version, declared.fault.FaultKind.TheVariants.Words, declared.job.Asked.Asked}
use Rattle.rds_tool.specs.declared.job.Cuts.TheVariants as cuts
use Rattle.rds_tool.specs.declared.job.Ignored.TheVariants as ignored
use Rattle.rds_tool.specs.declared.job.Job.TheVariants as job
use Rattle.rds_tool.specs.declared.job.Request.TheVariants as request

-- ---- gaps

abbrev pub scan_with_bad_gaps : List Text
scan_with_bad_gaps = codes "rds" ∷ codes "scan" ∷ codes "--gaps" ∷ codes "5" ∷ []

pub no_fault_of_gaps : faults_of scan_with_bad_gaps ≡ []
unfolding walked bundle_met flags_pass walk_passes flags_fault walk_fault defaults_fault
no_fault_of_gaps = refl

pub has_bad_gaps : HasBadGaps (entries_of scan_with_bad_gaps)
unfolding walked
has_bad_gaps = refl

-- ---- a stream

abbrev pub follow_with_a_gap : List Text
follow_with_a_gap = codes "rds" ∷ codes "follow" ∷ codes "--of" ∷ codes "3" ∷ codes "--share" ∷ codes "2" ∷ codes "--loss" ∷ codes "10" ∷ codes "--gaps" ∷ codes "104-105" ∷ []

abbrev stream_asked : Asked
stream_asked = record {
  request = request.Follow (record { hex = false; bits = None; gaps = (104, 105) ∷ [] }) (record { burst = 2; reach = 3; loss = Share 2 3 }) 1;
  ignored = Some ignored.Loss;
}

pub has_the_gap : (asked : Asked) → asked_by (entries_of follow_with_a_gap) ≡ Ok asked → (asked.ignored ≡ Some ignored.Loss) × (asked.request ≡ stream_asked.request)
unfolding walked
has_the_gap asked is =
    let both : Ok stream_asked ≡ Ok asked = is in
    let it : asked ≡ stream_asked = cc in
    (ap (λ (a : Asked). a.ignored) it, ap (λ (a : Asked). a.request) it)

no_fault_of_stream : faults_of follow_with_a_gap ≡ []
unfolding walked bundle_met flags_pass walk_passes flags_fault walk_fault defaults_fault
no_fault_of_stream = refl

pub no_job_of_stream : (given : Job) → job_by (entries_of follow_with_a_gap) ≡ Some given → ⊥
unfolding walked
no_job_of_stream given is = let no : None ≡ Some given = is in cc

pub words_or_memory : (answer : FaultKind) → MayAnswer (faults_of follow_with_a_gap) (job_by (entries_of follow_with_a_gap)) answer → (answer ≡ Words) ⊎ (answer ≡ Memory)
words_or_memory Words may = inl refl
words_or_memory Memory may = inr refl
words_or_memory Help may = absurd (rw no_fault_of_stream at may)
words_or_memory Version may = absurd (rw no_fault_of_stream at may)

-- what is never answered
pub never : {T E : Type 0} (answer : Result T E) → IfOk answer (λ x. ⊥) → OnOk answer ⊥
never (Ok x) h = absurd h
never (Err e) h = tt

-- ---- the texts that are shown

-- if a fault is found there is no job
pub never_ok : {T E : Type 0} (k : ErrorKind) (answer : Result T E) → OnOk answer (k ∷ [] ≡ []) → OnOk answer ⊥
never_ok k (Ok job) h = let no : k ∷ [] ≡ [] = h in cc
never_ok k (Err fault) h = tt

-- ---- the help of a list

abbrev pub help_of_list : List Text
help_of_list = codes "rds" ∷ codes "list" ∷ codes "--help" ∷ []

pub asks_for_help : faults_of help_of_list ≡ kind.DisplayHelp ∷ []
unfolding walked bundle_met flags_pass walk_passes flags_fault walk_fault defaults_fault
asks_for_help = refl

pub help_or_memory : (answer : FaultKind) → MayAnswer (faults_of help_of_list) (result_ok (asked_by (entries_of help_of_list))) answer → (answer ≡ Help) ⊎ (answer ≡ Memory)
help_or_memory Help may = inl refl
help_or_memory Memory may = inr refl
help_or_memory Version may =
    elim (rw asks_for_help at may) [ inl same ↦ let no : kind.DisplayVersion ≡ kind.DisplayHelp = same in cc | inr none ↦ absurd none ]
help_or_memory Words (inl other) =
    let among = other.2 in
    elim (rw asks_for_help at among) [ inl same ↦ absurd (other.1.0 same) | inr none ↦ absurd none ]
help_or_memory Words (inr none) = let faults = none.0 in let no = rw asks_for_help at faults in cc
