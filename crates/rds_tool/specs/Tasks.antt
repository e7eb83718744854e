-- A job whose settings are in their ranges: this project's rule. `transcribe` cites it, by `IsTranscribed`.
use Rattle.std.specs.Prelude.{Ok, Result}
use Rattle.rds_tool.specs.{Input.and_then, Plans.plan_of, Plans.workers_of, declared.job.Job.Job, declared.task.Task.Task}
use Rattle.rds_code.specs.declared.error.RdsError.{RdsError}
use Rattle.rds_tool.specs.declared.job.Job.TheVariants as job
use Rattle.rds_tool.specs.declared.task.Task.TheVariants as task

-- the job with its plan
abbrev pub task_of : Job → Result Task RdsError
task_of (job.Scan input workers) = and_then (workers_of workers) (λ workers. Ok (task.Scan input workers))
task_of (job.List input settings) = and_then (plan_of settings) (λ plan. Ok (task.List input plan))
task_of (job.Totals input settings) = and_then (plan_of settings) (λ plan. Ok (task.Totals input plan))
task_of (job.Encode hex) = Ok (task.Encode hex)
task_of (job.Soft input settings margin has_rows) = and_then (plan_of settings) (λ plan. Ok (task.Soft input plan margin has_rows))
