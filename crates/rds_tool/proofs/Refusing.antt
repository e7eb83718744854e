-- The answer to an error of `clap`.
use Rattle.rds_tool.proofs.Names.{common_steps, arith, ◌≡◌, ◌⊎◌, None, Option, [], option_and_then, HasKind, Kinds, kind_of, IsFault, MayAnswer, job_in, Asked, Job}
use Rattle.rds_tool.specs.declared.fault.FaultKind.{FaultKind, TheVariants.Help, TheVariants.Memory, TheVariants.Version, TheVariants.Words}
use Rattle.clap.specs.declared.error.Error.{Error}
use Rattle.clap.specs.declared.error.kind.ErrorKind.TheVariants as kind

-- the kind answered is that of one of the faults, or that of refused memory
pub refused_by : {T : Type 0} (faults : Kinds) (asked : Option T) (e : Error) (answer : FaultKind) → HasKind faults e
    → (answer ≡ Help → kind_of e ≡ kind.DisplayHelp)
    → (answer ≡ Version → kind_of e ≡ kind.DisplayVersion)
    → (answer ≡ Words → IsFault (kind_of e))
    → MayAnswer faults asked answer
refused_by faults asked e answer it help version words = grind (arith, common_steps)

-- where nothing is asked for, no job is
pub no_job : (faults : Kinds) (asked : Option Asked) (answer : FaultKind) → MayAnswer faults asked answer
    → MayAnswer faults (option_and_then (λ (a : Asked). job_in a.request) asked) answer
no_job faults asked answer it = grind (arith, common_steps, option_and_then)

-- a stream is no job
pub of_stream : (faults : Kinds) (job : Option Job) (answer : FaultKind) → faults ≡ [] → job ≡ None → (answer ≡ Memory) ⊎ (answer ≡ Words)
    → MayAnswer faults job answer
of_stream faults job answer none without it = grind (arith, common_steps)

-- the steps of functions that need no answer
pub ruleset answer_steps = (common_steps, option_and_then, refused_by, no_job, of_stream)
