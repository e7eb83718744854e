-- The promises of a transcription, about its reader, its writer and its answer. `transcribe` and
-- `transcribe_gated` cite it, and a caller relies on its fields as on clauses.
use Rattle.std.specs.Prelude.{◌<◌, ◌≡◌, ◌≢◌, ◌≤◌, ◌⊎◌, ◌↔◌, ℕ, Err, IfErr, IfSome, IsErrOf, List, OnOk, Result, length, true}
use Rattle.std.specs.Io.KnownBytes.{Consumes, IsAtEnd}
use Rattle.rds_rows.specs.declared.sink.Sink.{Ghosts as Sink}
use Rattle.rds_tool.specs.{History.Gave, Outcome.IsOutside, Outcome.Writes, Outcome.WritesPrefix, Outcome.result_of_job, Tasks.task_of, declared.devices.Source.Ghosts as Source, declared.job.Job.Job}
use Rattle.rds_code.specs.declared.error.RdsError.{RdsError, TheVariants.NoWorker, TheVariants.Read, TheVariants.TooManyTurns, TheVariants.Write}

-- the answer to a job, if the reader was `reader` and is now `reader'`, and the writer likewise
pub record IsTranscribed {R W : Type 0} (source : Source R) (sink : Sink W) (job : Job) (reader reader' : R)
    (writer writer' : W)
    (result : Result (Unit {0}) RdsError) : Type 0 where
  -- if it is Ok, the whole input was read, and the text that the job makes of it was written
  pub end : OnOk result (IsAtEnd (source.remaining reader'))
  pub ok : OnOk result (IfSome (source.remaining reader) (λ held.
      Writes (sink.contents writer) (sink.contents writer') (result_of_job job held)))
  -- at every device: the writer took the text of the bytes that the reader gave, the reader had answered its end, and the
  -- writer's last call was a flush that succeeded
  pub heard : OnOk result (Gave (source.given reader) (source.given reader')
      (λ bytes. Writes (sink.contents writer) (sink.contents writer') (result_of_job job bytes)))
  pub ended : OnOk result (source.has_ended reader' ≡ true)
  pub flushed : OnOk result (sink.is_flushed writer' ≡ true)
  -- a refusal for a device's sake comes exactly if one failed; one for the number of reads only if as many
  -- bytes were read; one for a thread's never; another is that of the job
  pub read : IsErrOf result Read ↔ (source.failed reader < source.failed reader')
  pub write : IsErrOf result Write ↔ (sink.failed writer < sink.failed writer')
  pub turns : IsErrOf result TooManyTurns
      → (more : List ℕ) × Consumes (source.remaining reader) (source.remaining reader') more × (16777216 ≤ length more)
  pub no_worker : IsErrOf result NoWorker → ⊥
  pub refused : IfErr result (λ error. IsOutside error
      ⊎ IfSome (source.remaining reader) (λ held. result_of_job job held ≡ Err error))
  -- at every device: as many bytes were given, or the refusal is that of the job and the bytes given, to the reader's end
  -- unless it is for the settings' sake
  pub turned : IsErrOf result TooManyTurns
      → Gave (source.given reader) (source.given reader') (λ bytes. 16777216 ≤ length bytes)
  pub refused_by : IfErr result (λ error. IsOutside error ⊎ Gave (source.given reader) (source.given reader')
      (λ bytes. (result_of_job job bytes ≡ Err error) × ((task_of job ≡ Err error) ⊎ (source.has_ended reader' ≡ true))))
  -- settings out of their range are refused as such before anything is read
  pub settings : IfErr (task_of job) (λ error. (result ≡ Err error) × (reader' ≡ reader))
  -- the writer's contents after a refusal
  pub untouched : IfErr result (λ error. error ≢ Write → writer' ≡ writer)
  pub prefix : IsErrOf result Write
      → IfSome (source.remaining reader) (λ held. WritesPrefix (sink.contents writer) (sink.contents writer') (result_of_job job held))
  -- at every device
  pub broke_off : IsErrOf result Write → Gave (source.given reader) (source.given reader')
      (λ bytes. WritesPrefix (sink.contents writer) (sink.contents writer') (result_of_job job bytes))
