-- From devices with no history to those that a run leaves.
use Rattle.std.proofs.Common.{◌++◌, ◌<◌, ◌≤◌, ◌≡◌, ◌≢◌, ◌⊎◌, ◌∙◌, [], ℕ, ap, arith, Bool, Err, false, inl, inr, length, List, None, Ok, Option, refl, Result, Some, subst, sym, true}
use Rattle.std.specs.Prelude.{◌↔◌, IfErr, IfSome, IsErrOf, OnOk}
use Rattle.rds_rows.specs.declared.sink.Sink.{Ghosts as Sink}
use Rattle.rds_sync.specs.{Ranges.IsOfRules, Rules.RuleNumbers}
use Rattle.rds_code.specs.declared.error.RdsError.{RdsError, TheVariants.BadGaps, TheVariants.BitsPastBytes, TheVariants.BurstRange, TheVariants.CrewRange, TheVariants.LossRange, TheVariants.OutOfMemory, TheVariants.ReachRange, TheVariants.Read, TheVariants.ShareRange, TheVariants.TooLong, TheVariants.Write}
use Rattle.rds_tool.{specs.Following.Follows, specs.Following.HasAll, specs.Following.MayBreakOff, specs.Following.Stream, specs.History.Gave, specs.Outcome.IsOutside, specs.Outcome.Writes, specs.Outcome.WritesPrefix, specs.Outcome.result_of_job, specs.Tasks.task_of, specs.Transcribed.IsTranscribed, specs.declared.devices.Source.Ghosts as Source, specs.declared.job.Job.Job, proofs.Followed.asked_still}
use Rattle.rds.specs.Session.{BlamesDevices, IsDone, IsFollowed, RefusesRules, RefusesTerms, RefusesWorkers, stream_of}

-- the bytes given are all bytes given since the reader was made
gave_all : (given' : List ℕ) (P : List ℕ → Type 0) → Gave [] given' P → P given'
gave_all given' P (bytes, gave, p) = subst P (sym gave) p

text_of : (r : Result (List ℕ) RdsError) (taken : List ℕ) → Writes (Some []) (Some taken) r → r ≡ Ok taken
text_of (Ok text) taken wrote = ap (λ t. Ok t) (sym wrote)
text_of (Err e) taken wrote = absurd wrote

prefix_of : (r : Result (List ℕ) RdsError) (taken : List ℕ) → WritesPrefix (Some []) (Some taken) r → (rest : List ℕ) × (r ≡ Ok (taken ++ rest))
prefix_of (Ok text) taken (prefix, rest, split, wrote) = (rest, ap (λ t. Ok t) (split ∙ ap (λ p. p ++ rest) (sym wrote)))
prefix_of (Err e) taken wrote = absurd wrote

wrote_all : (answer : Result (Unit {0}) RdsError) (job : Job) (given' taken : List ℕ)
    → OnOk answer (Gave [] given' (λ bytes. Writes (Some []) (Some taken) (result_of_job job bytes))) → OnOk answer (result_of_job job given' ≡ Ok taken)
wrote_all (Ok x) job given' taken h = text_of (result_of_job job given') taken (gave_all given' (λ bytes. Writes (Some []) (Some taken) (result_of_job job bytes)) h)
wrote_all (Err e) job given' taken h = tt

refused_by : (answer : Result (Unit {0}) RdsError) (job : Job) (given' : List ℕ) (ended : Bool)
    → IfErr answer (λ error. IsOutside error ⊎ Gave [] given' (λ bytes. (result_of_job job bytes ≡ Err error) × ((task_of job ≡ Err error) ⊎ (ended ≡ true))))
    → IfErr answer (λ error. IsOutside error ⊎ ((result_of_job job given' ≡ Err error) × ((task_of job ≡ Err error) ⊎ (ended ≡ true))))
refused_by (Ok x) job given' ended h = tt
refused_by (Err e) job given' ended (inl outside) = inl outside
refused_by (Err e) job given' ended (inr gave) = inr (gave_all given' (λ bytes. (result_of_job job bytes ≡ Err e) × ((task_of job ≡ Err e) ⊎ (ended ≡ true))) gave)

module _ {R W : Type 0} (source : Source R) (sink : Sink W) (job : Job) (reader reader' : R) (writer writer' : W) (answer : Result (Unit {0}) RdsError) where
  untouched_is : (taken : List ℕ) → sink.contents writer ≡ Some [] → sink.contents writer' ≡ Some taken → writer' ≡ writer → taken ≡ []
  untouched_is taken none took same =
      let both : Some taken ≡ Some [] = sym took ∙ (ap (λ w. sink.contents w) same ∙ none) in cc both

  untouched_of : (r : Result (Unit {0}) RdsError) (taken : List ℕ) → sink.contents writer ≡ Some [] → sink.contents writer' ≡ Some taken
      → IfErr r (λ error. error ≢ Write → writer' ≡ writer) → IfErr r (λ error. error ≢ Write → taken ≡ [])
  untouched_of (Ok x) taken none took h = tt
  untouched_of (Err e) taken none took h = λ other. untouched_is taken none took (h other)

  -- a transcription between devices that were just made
  pub job_done : IsTranscribed source sink job reader reader' writer writer' answer
      → source.given reader ≡ [] → source.failed reader ≡ 0 → sink.contents writer ≡ Some [] → sink.failed writer ≡ 0
      → (given' taken : List ℕ) → source.given reader' ≡ given' → sink.contents writer' ≡ Some taken
      → IsDone given' (source.has_ended reader') (source.failed reader') taken (sink.is_flushed writer') (sink.failed writer') answer job
  job_done t fresh unfailed none sound given' taken gave took =
      let heard = rw (fresh, none, gave, took) at t.heard in
      let kinds = rw (fresh, gave) at t.refused_by in
      record {
        text = wrote_all answer job given' taken heard;
        end = t.ended;
        flush = t.flushed;
        devices = record {
          read = subst (λ n. IsErrOf answer Read ↔ (n < source.failed reader')) unfailed t.read;
          write = subst (λ n. IsErrOf answer Write ↔ (n < sink.failed writer')) sound t.write;
        };
        turns = λ p. gave_all given' (λ bytes. 16777216 ≤ length bytes) (rw (fresh, gave) at t.turned p);
        no_worker = t.no_worker;
        refused = refused_by answer job given' (source.has_ended reader') kinds;
        untouched = untouched_of answer taken none took t.untouched;
        prefix = λ p. prefix_of (result_of_job job given') taken (gave_all given' (λ bytes. WritesPrefix (Some []) (Some taken) (result_of_job job bytes)) (rw (fresh, none, gave, took) at t.broke_off p));
      }

-- a stream that was followed between devices that were just made
module _ {R W : Type 0} (source : Source R) (sink : Sink W) (s : Stream) (rules : RuleNumbers) (workers : ℕ) (reader reader' : R) (writer writer' : W) where
  blames : (answer : Result (Unit {0}) RdsError) → Follows source sink s reader reader' writer writer' answer → source.failed reader ≡ 0 → sink.failed writer ≡ 0
      → BlamesDevices (source.failed reader') (sink.failed writer') answer
  blames answer f unfailed sound = record {
    read = subst (λ n. IsErrOf answer Read ↔ (n < source.failed reader')) unfailed f.read;
    write = subst (λ n. IsErrOf answer Write ↔ (n < sink.failed writer')) sound f.write;
  }

  pub stream_followed : (answer : Result (Unit {0}) RdsError) (taken : List ℕ) → Follows source sink s reader reader' writer writer' answer
      → source.given reader ≡ [] → source.failed reader ≡ 0 → sink.contents writer ≡ Some [] → sink.failed writer ≡ 0 → sink.contents writer' ≡ Some taken
      → IsFollowed (source.given reader') (source.has_ended reader') (source.failed reader') taken (sink.is_flushed writer') (sink.failed writer') answer s rules workers
  stream_followed (Ok x) taken f fresh unfailed none sound took =
      let all : f.ok.symbols ≡ source.given reader' = sym (f.ok.gave ∙ ap (λ g. g ++ f.ok.symbols) fresh) in
      let wrote : Writes (Some []) (Some taken) (s.listed f.ok.symbols) =
      subst (λ o. Writes o (Some taken) (s.listed f.ok.symbols)) none (subst (λ n. Writes (sink.contents writer) n (s.listed f.ok.symbols)) took f.ok.text) in
      record {
        text = subst (λ xs. s.listed xs ≡ Ok taken) all (text_of (s.listed f.ok.symbols) taken wrote);
        end = subst (λ xs. HasAll s.claim s.step (s.size xs) (source.has_ended reader')) all f.ok.all;
        flush = f.ok.flush;
        devices = blames (Ok x) f unfailed sound;
        refused = tt;
        broke_off = tt;
      }
  stream_followed (Err e) taken f fresh unfailed none sound took = record {
    text = tt;
    end = tt;
    flush = tt;
    devices = blames (Err e) f unfailed sound;
    refused = inl f.refused;
    broke_off = rw (fresh, none, took) at f.broke_off;
  }

-- ---- terms that are refused, before anything is read

some_bits : (bits : Option ℕ) → IfSome bits (λ n. 0 ≤ n)
some_bits None = tt
some_bits (Some n) = omega arith

same_error : (d e : RdsError) → (let r : Result (Unit {0}) RdsError = Err d in r ≡ Err e) → d ≡ e
same_error d e p = cc p

none_less : (let n : ℕ = 0 in n < 0) → ⊥
none_less some = omega (arith, some)

module _ (rules : RuleNumbers) (workers : ℕ) where
  refuses_other : (k : RdsError) → k ≢ OutOfMemory → k ≢ CrewRange → (RefusesRules rules k → ⊥) → RefusesTerms rules workers k → ⊥
  refuses_other k memory crew none (inl p) = memory p
  refuses_other k memory crew none (inr (inl r)) = none r
  refuses_other k memory crew none (inr (inr w)) = crew w.0

  broke_of : (e : RdsError) → RefusesTerms rules workers e → MayBreakOff e ⊎ (RefusesRules rules e ⊎ RefusesWorkers workers e)
  broke_of e (inl memory) = inl (inl memory)
  broke_of e (inr why) = inr why

  -- the error is none of a device or of a stream
  module _ (e : RdsError) (why : RefusesTerms rules workers e) where
    is_not : (k : RdsError) → k ≢ OutOfMemory → k ≢ CrewRange → (RefusesRules rules k → ⊥) → e ≢ k
    is_not k memory crew none p = refuses_other k memory crew none (subst (λ x. RefusesTerms rules workers x) p why)

    not_read : e ≢ Read
    not_read = is_not Read (λ p. cc p) (λ p. cc p) (λ r. r)

    not_write : e ≢ Write
    not_write = is_not Write (λ p. cc p) (λ p. cc p) (λ r. r)

    not_long : e ≢ TooLong
    not_long = is_not TooLong (λ p. cc p) (λ p. cc p) (λ r. r)

    not_past : e ≢ BitsPastBytes
    not_past = is_not BitsPastBytes (λ p. cc p) (λ p. cc p) (λ r. r)

    not_gaps : e ≢ BadGaps
    not_gaps = is_not BadGaps (λ p. cc p) (λ p. cc p) (λ r. r)

    blames_none : BlamesDevices 0 0 (Err e)
    blames_none = record {
      read = (λ p. absurd (not_read (same_error _ _ p)), λ some. absurd (none_less some));
      write = (λ p. absurd (not_write (same_error _ _ p)), λ some. absurd (none_less some));
    }

-- the terms are refused by the rules
module _ (T : Type 0) (rules : RuleNumbers) (workers : ℕ) (x : RdsError) where
  abbrev pub Says : RdsError → Type 0
  Says k = let r : Result T RdsError = Err x in IsErrOf r k → RefusesRules rules k

  said : (k : RdsError) → x ≡ k → Says k → RefusesTerms rules workers x
  said k is says = inr (inl (subst (RefusesRules rules) (sym is) (says (ap (λ (e : RdsError). let r : Result T RdsError = Err e in r) is))))

  pub terms_refused : IsOfRules x → Says BurstRange → Says ReachRange → Says LossRange → Says ShareRange → RefusesTerms rules workers x
  terms_refused (inl memory) burst reach loss share = inl memory
  terms_refused (inr (inl is)) burst reach loss share = said BurstRange is burst
  terms_refused (inr (inr (inl is))) burst reach loss share = said ReachRange is reach
  terms_refused (inr (inr (inr (inl is)))) burst reach loss share = said LossRange is loss
  terms_refused (inr (inr (inr (inr is)))) burst reach loss share = said ShareRange is share

-- no device was used
module _ (rules : RuleNumbers) (workers : ℕ) (e : RdsError) (why : RefusesTerms rules workers e) where
  none_followed : (s : Stream) → 0 < s.step → s.size [] ≡ 0 → s.rows [] ≡ [] → IsFollowed [] false 0 [] false 0 (Err e) s rules workers
  none_followed s some size none = record {
    text = tt;
    end = tt;
    flush = tt;
    devices = blames_none rules workers e why;
    refused = broke_of rules workers e why;
    broke_off = record {
      heard = [];
      last = [];
      few = omega arith;
      gave = refl;
      asked = asked_still s.claim s.step (s.size []) some (subst (λ k. IfSome s.claim (λ n. k ≤ n)) (sym size) (some_bits s.claim));
      prompt = λ p. absurd (not_read rules workers e why p);
      between = λ _. sym none;
      within = λ p. absurd (not_write rules workers e why p);
      too_long = λ p. absurd (not_long rules workers e why p);
      past = λ p. absurd (not_past rules workers e why p);
      bad_gaps = λ p. absurd (not_gaps rules workers e why p);
    };
  }

  pub stream_refused : (gaps : List (ℕ × ℕ)) (bits margin : Option ℕ) → IsFollowed [] false 0 [] false 0 (Err e) (stream_of rules gaps bits margin workers) rules workers
  stream_refused gaps bits None = none_followed (stream_of rules gaps bits None workers) (omega arith) refl refl
  stream_refused gaps bits (Some m) = none_followed (stream_of rules gaps bits (Some m) workers) (omega arith) refl refl
