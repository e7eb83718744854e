-- The texts of the tasks, and what they can't be refused for.
use Rattle.rds_tool.proofs.Names.{common_steps, ◌↔◌, arith, ◌∙◌, ◌≡◌, ◌<◌, ◌≢◌, Bool, Err, List, Ok, Option, Result, [], ◌∷◌, ap, ap₂, if◌then◌else◌, inl, inr, subst, sym, true, ℕ, IfErr, IfSome, OnOk, Appends, Signal, length_of, FromHexError, ItemsOf, report_items, RuleNumbers, totals_of, TotalsOf, cuts_any, cuts_bits, has_pieces, line_text, lines_text, words_or_refusal, and_then, decoded, or_hex_text, recording_of, report_text, totals_text, Writes, WritesPrefix, cut_recording, list_text, result_of_job, text_of_task, totals_list, recording_of_symbols, PlanOf, crew_of, cut_by, plan_of, workers_of, Loss, IsMemoryOrErrOf, loss_of, task_of, RdsError, BadCutting, BadGaps, BitsPastBytes, BurstRange, NoWorker, OutOfMemory, ReachRange, Read, TooLong, TooManyTurns, Write, Cuts, Input, Job, Settings, Task}
use Rattle.rds_tool.proofs.Passing.{passed_kind}
use Rattle.rds_sync.specs.{Decoding.listed, declared.report.Report.Report}
use Rattle.rds_tool.specs.Inside.Counters.{text_of_counted}
use Rattle.rds_tool.specs.declared.task.Task.TheVariants as task
use Rattle.rds_rows.specs.{Written.IsWritten, declared.error.RowsError.RowsError}

-- ---- the texts

-- a cutting of any number of bits
any_fits : (cuts : Cuts) → cuts_any cuts ≡ true → (n : ℕ) → cuts_bits cuts n ≡ true
any_fits cuts any n = grind (arith, common_steps)

pub any_cut : (cuts : Cuts) → cuts_any cuts ≡ true → (bits : Signal) → cut_by cuts bits ≡ Ok bits
any_cut cuts any bits = ap (λ (t : Bool). if t then Ok bits else Err BadCutting) (any_fits cuts any (length_of bits))

uncut : (cuts : Cuts) → cuts_any cuts ≡ true → (made : Result Signal RdsError) → made ≡ and_then made (cut_by cuts)
uncut cuts any (Ok bits) = sym (any_cut cuts any bits)
uncut cuts any (Err e) = cc

-- the totals of a recording that any cutting may cut
pub totals_uncut : (input : Input) (plan : PlanOf) (held : List ℕ) → cuts_any plan.cuts ≡ true
    → text_of_counted input plan.rules held ≡ text_of_task (task.Totals input plan) held
totals_uncut input plan held any = ap (λ (made : Result Signal RdsError). and_then made (λ recording. Ok (totals_list plan.rules recording))) (uncut plan.cuts any (recording_of input held))

module _ (input : Input) (plan : PlanOf) (held : List ℕ) (bits : Signal) where
  cut : recording_of input held ≡ Ok bits → cut_by plan.cuts bits ≡ Ok bits → cut_recording input plan.cuts held ≡ Ok bits
  cut recorded fits = ap (λ r. and_then r (cut_by plan.cuts)) recorded ∙ fits

  -- the listing of the report that was made
  pub list_made : (report : Report) → recording_of input held ≡ Ok bits → cut_by plan.cuts bits ≡ Ok bits → report.items ≡ listed bits plan.rules (report_items bits plan.rules)
      → report.totals ≡ totals_of (report_items bits plan.rules) → text_of_task (task.List input plan) held ≡ Ok (report_text report.items.list report.totals)
  list_made report recorded fits i o = grind (arith, common_steps, cut, listed)

  -- the listing that is written while the recording is decoded
  pub listed_whole : recording_of input held ≡ Ok bits → cut_by plan.cuts bits ≡ Ok bits → text_of_task (task.List input plan) held ≡ Ok (list_text plan.rules bits)
  listed_whole recorded fits = ap (λ r. and_then r (λ b. Ok (list_text plan.rules b))) (cut recorded fits)

  pub once_made : recording_of input held ≡ Ok bits → cuts_any plan.cuts ≡ true → text_of_task (task.List input plan) held ≡ Ok (list_text plan.rules bits)
  once_made recorded any = listed_whole recorded (any_cut plan.cuts any bits)

  -- the text of only its totals
  pub totals_made : (totals : TotalsOf) → recording_of input held ≡ Ok bits → cut_by plan.cuts bits ≡ Ok bits → totals ≡ totals_of (report_items bits plan.rules)
      → text_of_task (task.Totals input plan) held ≡ Ok (totals_text totals)
  totals_made totals recorded fits o = ap (λ r. and_then r (λ b. Ok (totals_list plan.rules b))) (cut recorded fits) ∙ ap (λ x. Ok (totals_text x)) (sym o)

pub items_heard : (items : ItemsOf) (work bits : Signal) (given rules : RuleNumbers)
    → items ≡ listed work given (report_items work given) → work ≡ bits → given ≡ rules → items ≡ listed bits rules (report_items bits rules)
items_heard items work bits given rules heard same_bits same_rules = heard ∙ ap₂ (λ b r. listed b r (report_items b r)) same_bits same_rules

pub totals_counted : (totals : TotalsOf) (work bits : Signal) (given rules : RuleNumbers)
    → totals ≡ totals_of (report_items work given) → work ≡ bits → given ≡ rules → totals ≡ totals_of (report_items bits rules)
totals_counted totals work bits given rules counted same_bits same_rules = counted ∙ ap₂ (λ b r. totals_of (report_items b r)) same_bits same_rules

-- what was written of a text was written of the same text
pub same_text : {W : Type 0} {contents : W → Option (List ℕ)} {failed : W → ℕ} {text : List ℕ} {writer writer' : W} {result : Result (Unit {0}) RowsError} (other : List ℕ)
    → IsWritten contents failed text writer writer' result → text ≡ other → IsWritten contents failed other writer writer' result
same_text {contents = contents} {failed = failed} {writer = writer} {writer' = writer'} {result = result} other is same =
    subst (λ (t : List ℕ). IsWritten contents failed t writer writer' result) same is

-- ---- the refusals

-- a refusal that the job or the bytes decide
abbrev pub IsOfOutcome : RdsError → Type 0
IsOfOutcome OutOfMemory = ⊥
IsOfOutcome NoWorker = ⊥
IsOfOutcome Read = ⊥
IsOfOutcome Write = ⊥
IsOfOutcome TooManyTurns = ⊥
IsOfOutcome e = Unit {0}

-- a refusal that is neither a device's nor for a thread's sake
abbrev pub IsInside : RdsError → Type 0
IsInside e = (e ≢ Read) × (e ≢ Write) × (e ≢ TooManyTurns) × (e ≢ NoWorker)

inside : (e : RdsError) → IsOfOutcome e → IsInside e
inside e h = (λ p. subst IsOfOutcome p h, λ p. subst IsOfOutcome p h, λ p. subst IsOfOutcome p h, λ p. subst IsOfOutcome p h)

memory_inside : (e : RdsError) → e ≡ OutOfMemory → IsInside e
memory_inside e m = grind (arith, common_steps)

module _ {A B : Type 0} where
  then_errs : (P : RdsError → Type 0) (r : Result A RdsError) (step : A → Result B RdsError) → IfErr r P → ((x : A) → IfErr (step x) P) → IfErr (and_then r step) P
  then_errs P r step h k = grind (arith, common_steps)

bytes_errs : (hex : Bool) (decoded held : Result (List ℕ) RdsError) → IfErr decoded IsOfOutcome → IfErr held IsOfOutcome → IfErr (if hex then decoded else held) IsOfOutcome
bytes_errs hex decoded held h k = grind (arith, common_steps)

first_errs : (long past bad : Bool) (recording : Signal)
    → let r : Result Signal RdsError = if long then Err TooLong else if past then Err BitsPastBytes else if bad then Err BadGaps else Ok recording in IfErr r IsOfOutcome
first_errs long past bad recording = grind (arith, common_steps)

hex_errs : (r : Result (List ℕ) FromHexError) → IfErr (or_hex_text r) IsOfOutcome
hex_errs r = grind (arith, common_steps)

recording_errs : (input : Input) (held : List ℕ) → IfErr (recording_of input held) IsOfOutcome
recording_errs input held = grind (arith, common_steps, then_errs, bytes_errs, hex_errs, first_errs)

symbols_errs : (input : Input) (symbols : List ℕ) → IfErr (recording_of_symbols input symbols) IsOfOutcome
symbols_errs input symbols = grind (arith, common_steps, first_errs)

cut_by_errs : (fits : Bool) (bits : Signal) → let r : Result Signal RdsError = if fits then Ok bits else Err BadCutting in IfErr r IsOfOutcome
cut_by_errs fits bits = grind (arith, common_steps)

cut_errs : (input : Input) (cuts : Cuts) (held : List ℕ) → IfErr (cut_recording input cuts held) IsOfOutcome
cut_errs input cuts held = grind (arith, common_steps, then_errs, recording_errs, cut_by_errs)

words_errs : (r : Result (List ℕ) FromHexError) → IfErr (words_or_refusal r) IsOfOutcome
words_errs r = grind (arith, common_steps)

line_errs : (hex : Bool) (line : List ℕ) → IfErr (line_text hex line) IsOfOutcome
line_errs hex line = grind (arith, common_steps, then_errs, words_errs)

lines_errs : (hex : Bool) (lines : List (List ℕ)) → IfErr (lines_text hex lines) IsOfOutcome
lines_errs hex [] = tt
lines_errs hex (line ∷ lines) = grind (arith, common_steps, then_errs, line_errs, lines_errs hex lines)

task_errs : (t : Task) (held : List ℕ) → IfErr (text_of_task t held) IsOfOutcome
task_errs t held = grind (arith, common_steps, then_errs, recording_errs, cut_errs, lines_errs, symbols_errs)

of_bytes : (t : Task) (held : List ℕ) (e : RdsError) → text_of_task t held ≡ Err e → IsOfOutcome e
of_bytes t held e q = let P : Result (List ℕ) RdsError → Type 0 = λ r. IfErr r IsOfOutcome in subst P q (task_errs t held)

-- a text is refused because memory was refused, or for its bytes
pub refused_inside : (t : Task) (held : List ℕ) (e : RdsError) → IsMemoryOrErrOf (text_of_task t held) e → IsInside e
refused_inside t held e (inl m) = memory_inside e m
refused_inside t held e (inr p) = inside e (of_bytes t held e p)

loss_errs : (loss : Loss) → IfErr (loss_of loss) IsOfOutcome
loss_errs loss = grind (arith, common_steps)

rules_at : (burst reach : Bool) (r : Result RuleNumbers RdsError) → IfErr r IsOfOutcome
    → let all : Result RuleNumbers RdsError = if burst then Err BurstRange else if reach then Err ReachRange else r in IfErr all IsOfOutcome
rules_at burst reach r h = grind (arith, common_steps)

workers_errs : (workers : ℕ) → IfErr (workers_of workers) IsOfOutcome
workers_errs workers = grind (arith, common_steps)

pieces_at : (pieces : Bool) → let r : Result (Unit {0}) RdsError = if pieces then Ok tt else Err BadCutting in IfErr r IsOfOutcome
pieces_at pieces = grind (arith, common_steps)

crew_errs : (settings : Settings) → IfErr (crew_of settings) IsOfOutcome
crew_errs settings = then_errs IsOfOutcome (workers_of settings.workers) _ (workers_errs settings.workers) (λ _. pieces_at (has_pieces settings.cuts))

plan_errs : (settings : Settings) → IfErr (plan_of settings) IsOfOutcome
plan_errs settings = grind (arith, common_steps, then_errs, rules_at, loss_errs, crew_errs)

settings_errs : (job : Job) → IfErr (task_of job) IsOfOutcome
settings_errs job = grind (arith, common_steps, then_errs, workers_errs, plan_errs)

-- settings are refused because memory was refused, or as such
pub settings_inside : (job : Job) (e : RdsError) → IsMemoryOrErrOf (task_of job) e → IsInside e
settings_inside job e (inl m) = memory_inside e m
settings_inside job e (inr q) = let P : Result Task RdsError → Type 0 = λ r. IfErr r IsOfOutcome in inside e (subst P q (settings_errs job))

-- what a refusal that is no device's is not
pub passed_inside : {T : Type 0} (r : Result T RdsError) (e : RdsError) → r ≡ Err e → IsInside e
    → (r ≢ Err Read) × (r ≢ Err Write) × (r ≢ Err TooManyTurns) × (r ≢ Err NoWorker)
passed_inside r e p h = grind (arith, common_steps, passed_kind)

-- a call that succeeded counted no failure
pub no_failure : {T X : Type 0} (x : T) (a b : ℕ) → let r : Result T RdsError = Ok x in (r ≡ Err Read ↔ a < b) → a < b → X
no_failure x a b h q = cc (h.1 q)

-- what was not called counted none
pub not_called : {X : Type 0} (n : ℕ) → n < n → X
not_called n h = absurd (omega arith)

-- ---- the outcome

pub outcome_is : (job : Job) (t : Task) (held bytes text : List ℕ) → task_of job ≡ Ok t → text_of_task t bytes ≡ Ok text → bytes ≡ held → result_of_job job held ≡ Ok text
outcome_is job t held bytes text p q h = ap (λ r. and_then r (λ k. text_of_task k held)) p ∙ ap (text_of_task t) (sym h) ∙ q

-- the text that was written
pub written_is : (o : Option (List ℕ)) (job : Job) (t : Task) (bytes text : List ℕ) (r : Result (Unit {0}) RdsError) (old new : Option (List ℕ))
    → IfSome o (λ held. bytes ≡ held) → task_of job ≡ Ok t → text_of_task t bytes ≡ Ok text → OnOk r (Appends old new text)
    → OnOk r (IfSome o (λ held. Writes old new (result_of_job job held)))
written_is o job t bytes text r old new h p q w = grind (arith, common_steps, outcome_is)

-- what a failed writing leaves is a prefix of the outcome's text
pub prefix_is : (o : Option (List ℕ)) (job : Job) (t : Task) (bytes text : List ℕ) (r : Result (Unit {0}) RdsError) (old new : Option (List ℕ))
    → IfSome o (λ held. bytes ≡ held) → task_of job ≡ Ok t → text_of_task t bytes ≡ Ok text → (r ≡ Err Write → WritesPrefix old new (Ok text)) → r ≡ Err Write
    → IfSome o (λ held. WritesPrefix old new (result_of_job job held))
prefix_is o job t bytes text r old new h p q w e = grind (arith, common_steps, outcome_is)
