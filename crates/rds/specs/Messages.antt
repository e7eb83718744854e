-- Lines on standard error, and the text that is shown if there is no request: this project's rule. `warn`, `name_refusal` and `tell`
-- cite it.
use Rattle.std.specs.Prelude.{◌∷◌, ◌+◌, ◌++◌, ◌≡◌, ◌<◌, [], ℕ, Bool, Err, List, None, Ok, Option, Result, Some, codes, if◌then◌else◌, nat_lt, true}
use Rattle.rds_tool.specs.{CommandLine.warning_of, declared.fault.FaultKind.FaultKind, declared.fault.FaultKind.TheVariants.Help, declared.fault.FaultKind.TheVariants.Memory, declared.fault.FaultKind.TheVariants.Version, declared.fault.FaultKind.TheVariants.Words, declared.job.Ignored.Ignored}
use Rattle.rds_code.specs.{Refusals.name_of, Refusals.number_of, declared.error.RdsError.RdsError, declared.error.RdsError.TheVariants.OutOfMemory, declared.error.RdsError.TheVariants.Write}

-- a number below 20 in decimal digits
abbrev pub digits_of : ℕ → List ℕ
digits_of n = if nat_lt n 10 then (48 + n) ∷ [] else 49 ∷ (38 + n) ∷ []

-- the line that names a refusal
abbrev pub refusal_line_of : RdsError → List ℕ
refusal_line_of error = codes "refused " ++ digits_of (number_of error) ++ codes " " ++ name_of error ++ 10 ∷ []

-- the line for an answer: nothing if it is no refusal
abbrev pub refusal_said : Result (Unit {0}) RdsError → List ℕ
refusal_said (Ok done) = []
refusal_said (Err error) = refusal_line_of error

-- the line that warns of an ignored option
abbrev pub warning_line_of : Ignored → List ℕ
warning_line_of option = codes "rds: " ++ warning_of option ++ 10 ∷ []

-- nothing if no option is ignored
abbrev pub warning_said : Option Ignored → List ℕ
warning_said None = []
warning_said (Some option) = warning_line_of option

-- The device took this text, or a beginning of it if a write failed. A device that has not failed took all of it.
pub record Says (text taken : List ℕ) (failures : ℕ) (taken' : List ℕ) (failures' : ℕ) : Type 0 where
  pub part : List ℕ
  pub rest : List ℕ
  pub text_is : text ≡ part ++ rest
  pub took : taken' ≡ taken ++ part
  pub whole : failures' ≡ 0 → (failures ≡ 0) × (part ≡ text)

-- standard output took this text and was flushed, or the answer is `Write`, after a beginning of the text
abbrev pub IsShown : (text taken : List ℕ) (flushed : Bool) (failures : ℕ) → Result (Unit {0}) RdsError → Type 0
IsShown text taken flushed failures (Ok done) = (taken ≡ text) × (flushed ≡ true) × (failures ≡ 0)
IsShown text taken flushed failures (Err error) = (error ≡ Write) × ((rest : List ℕ) × (text ≡ taken ++ rest)) × (0 < failures)

-- The text is shown for this reason. The numbers are the bytes that standard output took, whether it was flushed, its failures, and the bytes
-- and failures of standard error before and after.
abbrev pub IsTold : FaultKind → (text taken : List ℕ) (flushed : Bool) (failures : ℕ) (said : List ℕ) (said_failures : ℕ) (said' : List ℕ) (said_failures' : ℕ)
    → Result (Unit {0}) RdsError → Type 0
IsTold Help text taken flushed failures said f said' f' answer = IsShown text taken flushed failures answer × Says (refusal_said answer) said f said' f'
IsTold Version text taken flushed failures said f said' f' answer = IsShown text taken flushed failures answer × Says (refusal_said answer) said f said' f'
IsTold Words text taken flushed failures said f said' f' answer = (taken ≡ []) × (answer ≡ Ok tt) × Says text said f said' f'
IsTold Memory text taken flushed failures said f said' f' answer =
    (taken ≡ []) × (answer ≡ Err OutOfMemory) × Says (refusal_line_of OutOfMemory) said f said' f'
