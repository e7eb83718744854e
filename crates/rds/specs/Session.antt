-- The promise of a session, by the histories of standard input and standard output: this project's rule. `do_request` and the
-- functions that it calls cite it.
use Rattle.std.specs.Prelude.{◌++◌, ◌<◌, ◌≡◌, ◌≢◌, ◌≤◌, ◌⊎◌, ◌↔◌, [], ℕ, Bool, Err, IfErr, IsErrOf, List, None, Ok, OnOk, Option, Result, Some, false, length, true}
use Rattle.rds_sync.specs.{Ranges.IsRunOutside, Ranges.IsShareOutside, Ranges.farthest_reach, Ranges.longest_burst, Rules.RuleNumbers}
use Rattle.rds_tool.specs.{Ends.given_by, Ends.has_ended, Ends.is_flushed, Ends.read_failures, Ends.taken_by, Ends.write_failures, Following.BreaksOff, Following.HasAll, Following.MayBreakOff, Following.Stream, Following.bit_stream, SoftFollowing.symbol_stream, Plans.AreWorkers, Outcome.IsOutside, Outcome.result_of_job, Tasks.task_of, declared.job.Job.Job, declared.job.Request.Request, declared.job.Request.TheVariants.Follow, declared.job.Request.TheVariants.FollowSoft, declared.job.Request.TheVariants.Job as Work}
use Rattle.rds_code.specs.declared.error.RdsError.{RdsError, TheVariants.BurstRange, TheVariants.CrewRange, TheVariants.LossRange, TheVariants.NoWorker, TheVariants.OutOfMemory, TheVariants.ReachRange, TheVariants.Read, TheVariants.ShareRange, TheVariants.TooManyTurns, TheVariants.Write}
use Rattle.rds.specs.declared.session.Session.{Session}

-- rules are refused by this error: the number that it names is out of its range
abbrev pub RefusesRules : RuleNumbers → RdsError → Type 0
RefusesRules rules BurstRange = longest_burst < rules.burst
RefusesRules rules ReachRange = (rules.reach < 1) ⊎ (farthest_reach < rules.reach)
RefusesRules rules LossRange = IsRunOutside rules.loss
RefusesRules rules ShareRange = IsShareOutside rules.loss
RefusesRules rules other = ⊥

-- so is a number of workers
abbrev pub RefusesWorkers : ℕ → RdsError → Type 0
RefusesWorkers workers error = (error ≡ CrewRange) × (AreWorkers workers → ⊥)

-- so are both, or memory, before anything is read
abbrev pub RefusesTerms : RuleNumbers → ℕ → RdsError → Type 0
RefusesTerms rules workers error = (error ≡ OutOfMemory) ⊎ (RefusesRules rules error ⊎ RefusesWorkers workers error)

-- an error of a device is answered exactly if the device failed
pub record BlamesDevices (failed_reads failed_writes : ℕ) (answer : Result (Unit {0}) RdsError) : Type 0 where
  pub read : IsErrOf answer Read ↔ (0 < failed_reads)
  pub write : IsErrOf answer Write ↔ (0 < failed_writes)

-- the bytes that reads gave, whether the last read answered the end, and how many reads failed; the bytes that writes took, whether
-- the last call of the writer was a flush that succeeded, and how many of its calls failed
module _ (given : List ℕ) (ended : Bool) (failed_reads : ℕ) (taken : List ℕ) (flushed : Bool) (failed_writes : ℕ)
    (answer : Result (Unit {0}) RdsError) where
  -- a job was done: all that was read makes all that was written, or the refusal
  pub record IsDone (job : Job) : Type 0 where
    pub text : OnOk answer (result_of_job job given ≡ Ok taken)
    pub end : OnOk answer (ended ≡ true)
    pub flush : OnOk answer (flushed ≡ true)
    pub devices : BlamesDevices failed_reads failed_writes answer
    pub turns : IsErrOf answer TooManyTurns → 16777216 ≤ length given
    pub no_worker : IsErrOf answer NoWorker → ⊥
    pub refused : IfErr answer (λ error. IsOutside error ⊎ ((result_of_job job given ≡ Err error) × ((task_of job ≡ Err error) ⊎ (ended ≡ true))))
    pub untouched : IfErr answer (λ error. error ≢ Write → taken ≡ [])
    pub prefix : IsErrOf answer Write → (rest : List ℕ) × (result_of_job job given ≡ Ok (taken ++ rest))

  -- a stream was followed: all that was read makes all that was written, or it broke off, or its rules are refused
  pub record IsFollowed (s : Stream) (rules : RuleNumbers) (workers : ℕ) : Type 0 where
    pub text : OnOk answer (s.listed given ≡ Ok taken)
    pub end : OnOk answer (HasAll s.claim s.step (s.size given) ended)
    pub flush : OnOk answer (flushed ≡ true)
    pub devices : BlamesDevices failed_reads failed_writes answer
    pub refused : IfErr answer (λ error. MayBreakOff error ⊎ (RefusesRules rules error ⊎ RefusesWorkers workers error))
    pub broke_off : IfErr answer (BreaksOff s [] given ended (Some []) (Some taken) flushed)

-- the job was done by this session
abbrev pub HasDone : Job → Session → Type 0
HasDone job s =
    IsDone (given_by s.reader.device) (has_ended s.reader.device) (read_failures s.reader.device) (taken_by s.writer.device) (is_flushed s.writer.device)
    (write_failures s.writer.device) s.answer job

-- the stream of these bits, or of these symbols if there is a margin
abbrev pub stream_of : RuleNumbers → List (ℕ × ℕ) → Option ℕ → Option ℕ → ℕ → Stream
stream_of rules gaps bits None workers = bit_stream (record { rules = rules; gaps = gaps }) workers bits
stream_of rules gaps bits (Some margin) workers = symbol_stream (record { rules = rules; gaps = gaps; margin = margin }) bits

-- the stream was followed by it
abbrev pub HasFollowed : Stream → RuleNumbers → ℕ → Session → Type 0
HasFollowed stream rules workers s =
    IsFollowed (given_by s.reader.device) (has_ended s.reader.device) (read_failures s.reader.device) (taken_by s.writer.device) (is_flushed s.writer.device)
    (write_failures s.writer.device) s.answer stream rules workers

-- the request was done by this session
abbrev pub DoesAsked : Request → Session → Type 0
DoesAsked (Work job progress) s = HasDone job s
DoesAsked (Follow input rules workers) s = HasFollowed (stream_of rules input.gaps input.bits None workers) rules workers s
DoesAsked (FollowSoft input rules margin workers) s = HasFollowed (stream_of rules input.gaps input.bits (Some margin) workers) rules workers s

-- the request asks for the progress of its job
abbrev pub asks_for_progress : Request → Bool
asks_for_progress (Work job progress) = progress
asks_for_progress (Follow input rules workers) = false
asks_for_progress (FollowSoft input rules margin workers) = false
