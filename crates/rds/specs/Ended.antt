-- The promise of the program: this project's rule. It holds of every `Ended`, which only `do_as_asked` makes.
use Rattle.std.specs.Prelude.{[], ℕ, Err, List, Ok, Result, string_bytes}
use Rattle.rds_tool.specs.{Ends.is_flushed, Ends.taken_by, Ends.write_failures, declared.fault.CliFault.CliFault, declared.fault.FaultKind.FaultKind, declared.fault.FaultKind.TheVariants.Words, declared.job.Asked.Asked}
use Rattle.rds_code.specs.declared.error.RdsError.{RdsError}
use Rattle.rds.specs.{CommandLine.IsAskedFor, Fresh.IsUnread, Session.DoesAsked, Messages.IsTold, Messages.Says, Messages.refusal_said, Messages.warning_said, declared.session.Session.Session}

-- standard error took the warning, and then the line of the refusal
abbrev pub SaysBoth : (warning refusal said : List ℕ) (failures : ℕ) → Type 0
SaysBoth warning refusal said failures = (between : List ℕ) × (then : ℕ) × Says warning [] 0 between then × Says refusal between then said failures

-- The session did the request, and standard error took the lines for it. Or nothing was read, and the text of the fault was shown.
abbrev pub IsEnded : Result Asked CliFault → Session → (said : List ℕ) (failures : ℕ) → Type 0
IsEnded (Ok asked) s said failures = DoesAsked asked.request s × SaysBoth (warning_said asked.ignored) (refusal_said s.answer) said failures
IsEnded (Err fault) s said failures =
    IsUnread s.reader
    × IsTold fault.kind (string_bytes fault.text) (taken_by s.writer.device) (is_flushed s.writer.device) (write_failures s.writer.device) [] 0 said failures s.answer

-- The request is that of the words, and the session did it. `said` are the bytes that standard error took, `failures` how many of its writes
-- failed.
abbrev pub Answers : Result (List (List ℕ)) FaultKind → Result Asked CliFault → Session → (said : List ℕ) (failures : ℕ) → Type 0
Answers words asked s said failures = IsAskedFor words asked × IsEnded asked s said failures

-- the exit status of an answer: 1 after a refusal
abbrev pub status_of : Result (Unit {0}) RdsError → ℕ
status_of (Ok done) = 0
status_of (Err e) = 1

-- the exit status if there is no request: 2 for a usage error
abbrev pub status_for : FaultKind → Result (Unit {0}) RdsError → ℕ
status_for Words answer = 2
status_for other answer = status_of answer

-- the exit status of the program
abbrev pub status_by : Result Asked CliFault → Result (Unit {0}) RdsError → ℕ
status_by (Ok asked) answer = status_of answer
status_by (Err fault) answer = status_for fault.kind answer
