-- The outcome of a job over the bytes that a reader held, this project's rule: the text that is written, or
-- the first refusal that applies. `transcribe` promises it, by `IsTranscribed`, and `follow` how it is
-- written.
use Rattle.std.specs.{Prelude.◌≡◌, Prelude.◌⊎◌, Prelude.ℕ, Prelude.Err, Prelude.List, Prelude.Ok, Prelude.Option, Prelude.Result, Io.KnownBytes.Appends}
use Rattle.rds_rows.specs.Writes.{AppendsPrefix}
use Rattle.rds_stream.specs.Recording.{Signal}
use Rattle.rds_sync.specs.{Report.report_items, Rules.RuleNumbers, Totals.totals_of}
use Rattle.rds_tool.specs.{GroupText.encoded_text, Input.and_then, Input.recording_of, Listing.report_text, Listing.scan_text, Listing.totals_text, Plans.cut_by, Soft.recording_of_symbols, Soft.soft_text, Tasks.task_of, declared.job.Cuts.Cuts, declared.job.Input.Input, declared.job.Job.Job, declared.task.Task.Task}
use Rattle.rds_code.specs.declared.error.RdsError.{RdsError, TheVariants.OutOfMemory, TheVariants.Read, TheVariants.TooManyTurns, TheVariants.Write}
use Rattle.rds_tool.specs.declared.task.Task.TheVariants as task

-- the listing of the report of a recording
abbrev pub list_text : RuleNumbers → Signal → List ℕ
list_text rules recording = report_text (report_items recording rules) (totals_of (report_items recording rules))

-- the listing of only its totals
abbrev pub totals_list : RuleNumbers → Signal → List ℕ
totals_list rules recording = totals_text (totals_of (report_items recording rules))

-- the recording, if its bits can be cut so
abbrev pub cut_recording : Input → Cuts → List ℕ → Result Signal RdsError
cut_recording input cuts held = and_then (recording_of input held) (cut_by cuts)

-- the text of a task over the bytes held, or the refusal of these bytes; no text depends on the cuts or the workers
abbrev pub text_of_task : Task → List ℕ → Result (List ℕ) RdsError
text_of_task (task.Scan input workers) held = and_then (recording_of input held) (λ recording. Ok (scan_text recording))
text_of_task (task.List input plan) held = and_then (cut_recording input plan.cuts held) (λ recording. Ok (list_text plan.rules recording))
text_of_task (task.Totals input plan) held = and_then (cut_recording input plan.cuts held) (λ recording. Ok (totals_list plan.rules recording))
text_of_task (task.Encode hex) held = encoded_text hex held
text_of_task (task.Soft input plan margin has_rows) held =
    and_then (recording_of_symbols input held) (λ recording. Ok (soft_text has_rows plan.rules margin held recording))

-- the text of a job over the bytes held, or its refusal; the settings are looked at first
abbrev pub result_of_job : Job → List ℕ → Result (List ℕ) RdsError
result_of_job job held = and_then (task_of job) (λ task. text_of_task task held)

-- the refusals that the job and the bytes don't decide
abbrev pub IsOutside : RdsError → Type 0
IsOutside e = (e ≡ OutOfMemory) ⊎ ((e ≡ Read) ⊎ ((e ≡ Write) ⊎ (e ≡ TooManyTurns)))

-- the whole text was added to the writer's bytes; if the outcome is a refusal, this can't be
abbrev pub Writes : Option (List ℕ) → Option (List ℕ) → Result (List ℕ) RdsError → Type 0
Writes old new (Ok text) = Appends old new text
Writes old new (Err e) = ⊥

-- a prefix of the text was added to the writer's bytes
abbrev pub WritesPrefix : Option (List ℕ) → Option (List ℕ) → Result (List ℕ) RdsError → Type 0
WritesPrefix old new (Ok text) = AppendsPrefix old new text
WritesPrefix old new (Err e) = ⊥
