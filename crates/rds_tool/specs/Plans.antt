-- The plan of settings, for a synchroniser and its crew, once they are in their ranges: this project's rule.
-- `Plan::of` answers it or refuses, and so does `transcribe`.
use Rattle.std.specs.Prelude.{◌≡◌, ◌≤◌, ◌||◌, ℕ, Err, Ok, Result, if◌then◌else◌, nat_lt, true}
use Rattle.rds_stream.specs.Recording.{Signal, length_of}
use Rattle.rds_sync.specs.Rules.{RuleNumbers}
use Rattle.rds_tool.specs.{Cuts.cuts_bits, Cuts.has_pieces, Input.and_then, Rules.rules_of, declared.job.Cuts.Cuts, declared.job.Settings.Settings}
use Rattle.rds_code.specs.declared.error.RdsError.{RdsError, TheVariants.BadCutting, TheVariants.CrewRange}

-- the rules, the number of workers and the cuts
pub record PlanOf : Type 0 where
  pub rules : RuleNumbers
  pub workers : ℕ
  pub cuts : Cuts

-- there are 1 to 256 workers, and pieces for them
pub record IsPlan (plan : PlanOf) : Type 0 where
  pub some : 1 ≤ plan.workers
  pub few : plan.workers ≤ 256
  pub pieces : has_pieces plan.cuts ≡ true

-- there are 1 to 256 of them
abbrev pub AreWorkers : ℕ → Type 0
AreWorkers workers = (1 ≤ workers) × (workers ≤ 256)

-- this number of workers, if it is in the range
abbrev pub workers_of : ℕ → Result ℕ RdsError
workers_of workers = if nat_lt workers 1 || nat_lt 256 workers then Err CrewRange else Ok workers

-- the fault of the crew that is asked for, if there is one: of its workers, and then of its pieces
abbrev pub crew_of : Settings → Result (Unit {0}) RdsError
crew_of settings =
    and_then (workers_of settings.workers) (λ _.
    if has_pieces settings.cuts then Ok tt else Err BadCutting)

-- the plan of these settings, or the first that is out of its range: of the rules, and then of the crew
abbrev pub plan_of : Settings → Result PlanOf RdsError
plan_of settings =
    and_then (rules_of settings) (λ rules.
    and_then (crew_of settings) (λ _.
    Ok (record { rules = rules; workers = settings.workers; cuts = settings.cuts })))

-- the recording, if its bits can be cut so
abbrev pub cut_by : Cuts → Signal → Result Signal RdsError
cut_by cuts recording = if cuts_bits cuts (length_of recording) then Ok recording else Err BadCutting
