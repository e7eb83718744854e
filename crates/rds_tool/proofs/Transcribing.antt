-- How a transcription ends: its settings are refused, or its bytes, or its writer's turn has come.
use Rattle.rds_tool.proofs.Names.{common_steps, arith, Bool, Err, List, Ok, Option, Result, true, ◌++◌, inl, inr, refl, subst, sym, ◌<◌, ◌≡◌, ◌≢◌, ◌≤◌, ◌⊎◌, ◌↔◌, length, ℕ, IfErr, IfSome, OnOk, Appends, Consumes, IsAtEnd, append-nil, Gave, IsOutside, Writes, WritesPrefix, result_of_job, text_of_task, IsMemoryOrErrOf, task_of, RdsError, NoWorker, OutOfMemory, Read, TooManyTurns, Write, Job, Task}
use Rattle.rds_tool.{specs.Transcribed.IsTranscribed, specs.declared.devices.Source.Ghosts as Source, proofs.Followed.no_such, proofs.Followed.not_told, proofs.Followed.of_call, proofs.Followed.of_none, proofs.Followed.on_any_ok, proofs.Followed.told_on, proofs.Passing.no_err, proofs.Passing.no_ok, proofs.Texts.not_called, proofs.Texts.passed_inside, proofs.Texts.prefix_is, proofs.Texts.refused_inside, proofs.Texts.settings_inside, proofs.Texts.written_is}
use Rattle.rds_rows.specs.declared.sink.Sink.{Ghosts as Sink}

-- a refusal of settings is one of the job
task_refused : (job : Job) (remaining : Option (List ℕ)) (e : RdsError) → IsMemoryOrErrOf (task_of job) e
    → IsOutside e ⊎ IfSome remaining (λ held. result_of_job job held ≡ Err e)
task_refused job remaining e it = grind (arith, common_steps)

-- so is one of the bytes, but for refused memory
text_refused : (job : Job) (task : Task) (remaining : Option (List ℕ)) (held : List ℕ) (e : RdsError) → task_of job ≡ Ok task
    → IfSome remaining (λ bytes. held ≡ bytes) → IsMemoryOrErrOf (text_of_task task held) e → IsOutside e ⊎ IfSome remaining (λ bytes. result_of_job job bytes ≡ Err e)
text_refused job task remaining held e is same it = grind (arith, common_steps)

-- the same of the bytes that were given, of which there are none before the settings are looked at
abbrev Refused : Job → List ℕ → List ℕ → Bool → RdsError → Type 0
Refused job given given' ended e = IsOutside e ⊎ Gave given given' (λ bytes. (result_of_job job bytes ≡ Err e) × ((task_of job ≡ Err e) ⊎ (ended ≡ true)))

task_refused_by : (job : Job) (given : List ℕ) (ended : Bool) (e : RdsError) → IsMemoryOrErrOf (task_of job) e → Refused job given given ended e
task_refused_by job given ended e it = grind (arith, common_steps, append-nil)

text_refused_by : (job : Job) (task : Task) (given given' held : List ℕ) (ended : Bool) (e : RdsError) → task_of job ≡ Ok task → given' ≡ given ++ held
    → ended ≡ true → IsMemoryOrErrOf (text_of_task task held) e → Refused job given given' ended e
text_refused_by job task given given' held ended e is gave done it = grind (arith, common_steps)

-- one of the reader is a device's, or for want of memory
outside_of_read : (e : RdsError) → (e ≡ OutOfMemory) ⊎ ((e ≡ Read) ⊎ (e ≡ TooManyTurns)) → IsOutside e
outside_of_read e it = grind (arith, common_steps)

-- and one of the writer is a device's
write_refused : {T : Type 0} (P : RdsError → Type 0) (r : Result T RdsError) → IfErr r (λ e. (e ≡ OutOfMemory) ⊎ (e ≡ Write)) → IfErr r (λ e. IsOutside e ⊎ P e)
write_refused P r it = grind (arith, common_steps)

-- the error of such a write is `OutOfMemory` or `Write`, and no other
writer_alone : {T X : Type 0} (r : Result T RdsError) (k : RdsError) → ((k ≡ OutOfMemory) ⊎ (k ≡ Write) → X) → IfErr r (λ e. (e ≡ OutOfMemory) ⊎ (e ≡ Write)) → r ≡ Err k → X
writer_alone {T} r k other kinds p = other (subst (λ (x : Result T RdsError). IfErr x (λ e. (e ≡ OutOfMemory) ⊎ (e ≡ Write))) p kinds)

no_read : {X : Type 0} → (Read ≡ OutOfMemory) ⊎ (Read ≡ Write) → X
no_read (inl p) = cc p
no_read (inr p) = cc p

no_turns : {X : Type 0} → (TooManyTurns ≡ OutOfMemory) ⊎ (TooManyTurns ≡ Write) → X
no_turns (inl p) = cc p
no_turns (inr p) = cc p

no_thread : {X : Type 0} → (NoWorker ≡ OutOfMemory) ⊎ (NoWorker ≡ Write) → X
no_thread (inl p) = cc p
no_thread (inr p) = cc p

-- settings that are refused are refused as such, before anything is read
same_error : {T : Type 0} (e x : RdsError) → let r : Result T RdsError = Err e in r ≡ Err x → e ≡ x
same_error e x p = cc

settings_refused : {R : Type 0} (task : Result Task RdsError) (r : Result (Unit {0}) RdsError) (e : RdsError) (reader : R) → r ≡ Err e
    → IfErr task (λ x. let made : Result Task RdsError = Err e in made ≡ Err x) → IfErr task (λ x. (r ≡ Err x) × (reader ≡ reader))
settings_refused task r e reader same h = grind (arith, common_steps, same_error)

-- what was written of the bytes that were given
heard_is : (held given given' : List ℕ) (job : Job) (r : Result (Unit {0}) RdsError) (old new : Option (List ℕ)) → given' ≡ given ++ held
    → OnOk r (Writes old new (result_of_job job held)) → OnOk r (Gave given given' (λ bytes. Writes old new (result_of_job job bytes)))
heard_is held given given' job r old new p w = grind (arith, common_steps)

-- what is refused of a call is refused of its caller
on_err : {T : Type 0} (P : RdsError → Type 0) (r : Result T RdsError) (e : RdsError) → r ≡ Err e → P e → IfErr r P
on_err P r e same p = subst (λ x. IfErr x P) (sym same) p

module _ {R W : Type 0} (source : Source R) (sink : Sink W) (job : Job) (reader : R) (writer : W) (r : Result (Unit {0}) RdsError) where
  -- the settings are refused
  pub at_settings : (e : RdsError) → r ≡ Err e → IsMemoryOrErrOf (task_of job) e → IfErr (task_of job) (λ x. let made : Result Task RdsError = Err e in made ≡ Err x)
      → IsTranscribed source sink job reader reader writer writer r
  at_settings e same refused settings =
      let inside = passed_inside r e same (settings_inside job e refused) in
      record {
        end = no_ok _ _ _ same;
        ok = no_ok _ _ _ same;
        heard = no_ok _ _ _ same;
        ended = no_ok _ _ _ same;
        flushed = no_ok _ _ _ same;
        read = (λ p. absurd (inside.0 p), not_called _);
        write = (λ p. absurd (inside.1 p), not_called _);
        turns = λ p. absurd (inside.2 p);
        no_worker = inside.3;
        refused = on_err _ r e same (task_refused job (source.remaining reader) e refused);
        turned = λ p. absurd (inside.2 p);
        refused_by = on_err _ r e same (task_refused_by job (source.given reader) (source.has_ended reader) e refused);
        settings = settings_refused (task_of job) r e reader same settings;
        untouched = on_err _ r e same (λ other. refl);
        prefix = λ p. absurd (inside.1 p);
        broke_off = λ p. absurd (inside.1 p);
      }

  -- reading is refused
  module _ {T : Type 0} (reader' : R) (task : Task) (e : RdsError) (is : task_of job ≡ Ok task) (same : r ≡ Err e) where
    abbrev refused : Result T RdsError
    refused = Err e

    pub at_read : (e ≡ OutOfMemory) ⊎ ((e ≡ Read) ⊎ (e ≡ TooManyTurns)) → (refused ≡ Err Read ↔ (source.failed reader < source.failed reader'))
        → (refused ≡ Err TooManyTurns → (more : List ℕ) × Consumes (source.remaining reader) (source.remaining reader') more × (16777216 ≤ length more))
        → (refused ≡ Err TooManyTurns → Gave (source.given reader) (source.given reader') (λ bytes. 16777216 ≤ length bytes))
        → IsTranscribed source sink job reader reader' writer writer r
    at_read kinds failed turns turned = grind (arith, common_steps, of_none, no_ok, told_on, not_told, of_call, no_such, on_err, outside_of_read, no_err)

  -- memory is refused before anything is read
  pub at_memory : (task : Task) → task_of job ≡ Ok task → r ≡ Err OutOfMemory → IsTranscribed source sink job reader reader writer writer r
  at_memory task is same = at_read {T = Unit {0}} reader task OutOfMemory is same (inl refl) (λ p. absurd (cc p), not_called _) (λ p. absurd (cc p)) (λ p. absurd (cc p))

  -- all was read
  module _ (reader' : R) (task : Task) (held : List ℕ) (is : task_of job ≡ Ok task) (all : IfSome (source.remaining reader) (λ bytes. held ≡ bytes))
      (gave : source.given reader' ≡ source.given reader ++ held) (done : source.has_ended reader' ≡ true)
      (fine : source.failed reader < source.failed reader' → ⊥) where
    -- its bytes are refused
    pub at_bytes : (e : RdsError) → r ≡ Err e → IsMemoryOrErrOf (text_of_task task held) e → IsTranscribed source sink job reader reader' writer writer r
    at_bytes e same refused =
        let inside = passed_inside r e same (refused_inside task held e refused) in
        record {
          end = no_ok _ _ _ same;
          ok = no_ok _ _ _ same;
          heard = no_ok _ _ _ same;
          ended = no_ok _ _ _ same;
          flushed = no_ok _ _ _ same;
          read = (λ p. absurd (inside.0 p), λ q. absurd (fine q));
          write = (λ p. absurd (inside.1 p), not_called _);
          turns = λ p. absurd (inside.2 p);
          no_worker = inside.3;
          refused = on_err _ r e same (text_refused job task (source.remaining reader) held e is all refused);
          turned = λ p. absurd (inside.2 p);
          refused_by = on_err _ r e same (text_refused_by job task _ _ held _ e is gave done refused);
          settings = no_err _ _ _ is;
          untouched = on_err _ r e same (λ other. refl);
          prefix = λ p. absurd (inside.1 p);
          broke_off = λ p. absurd (inside.1 p);
        }

    -- the text is made
    module _ (writer' : W) (text : List ℕ) (made : text_of_task task held ≡ Ok text) (end : IsAtEnd (source.remaining reader')) where
      abbrev old : Option (List ℕ)
      old = sink.contents writer

      abbrev new : Option (List ℕ)
      new = sink.contents writer'

      pub at_writer : OnOk r (Appends old new text) → OnOk r (sink.is_flushed writer' ≡ true) → (r ≡ Err Write ↔ (sink.failed writer < sink.failed writer'))
          → IfErr r (λ e. (e ≡ OutOfMemory) ⊎ (e ≡ Write)) → IfErr r (λ e. e ≢ Write → writer' ≡ writer) → (r ≡ Err Write → WritesPrefix old new (Ok text))
          → IsTranscribed source sink job reader reader' writer writer' r
      at_writer wrote flushed failed kinds untouched prefix = grind (arith, common_steps, on_any_ok, written_is, heard_is, writer_alone, no_read, no_turns, no_thread, write_refused, no_err, prefix_is)

-- (an edit of must-fail/ makes a comment of this file up to here)
