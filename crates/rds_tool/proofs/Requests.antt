-- The request of each command, by its name.
use Rattle.rds_tool.proofs.Names.{common_steps, arith, ◌∙◌, ◌≡◌, ◌≢◌, List, None, Option, Some, codes, false, refl, sym, true, ℕ, option_map, bytes_eq, Row, Text, number_of, report_job_of, request_of, stream_of, with_progress, Input, Job, Encode, Scan, rules}
use Rattle.std.proofs.lemmas.Slice.Eq.{bytes_eq-Decides}

module _ (name : Text) (rows : List Row) (input : Input) where
  pub of_scan : name ≡ codes "scan" → (read workers : Option ℕ) → read ≡ number_of (codes "workers") rows → read ≡ workers
      → option_map (λ n. with_progress rows (Scan input n)) workers ≡ request_of name rows input
  of_scan is read workers reads same = rw (is, sym same ∙ reads) refl

  pub of_list : name ≡ codes "list" → (read job : Option Job) → read ≡ report_job_of rows true input → read ≡ job
      → option_map (with_progress rows) job ≡ request_of name rows input
  of_list is read job reads same = rw (is, sym same ∙ reads) refl

  pub of_totals : name ≡ codes "totals" → (read job : Option Job) → read ≡ report_job_of rows false input → read ≡ job
      → option_map (with_progress rows) job ≡ request_of name rows input
  of_totals is read job reads same = rw (is, sym same ∙ reads) refl

  pub of_follow : name ≡ codes "follow" → stream_of input rows ≡ request_of name rows input
  of_follow is = rw is refl

  pub of_encode : name ≡ codes "encode" → Some (with_progress rows (Encode input.hex)) ≡ request_of name rows input
  of_encode is = rw is refl

  differs : (word : Text) → name ≢ word → bytes_eq name word ≡ false
  differs word differ = grind (arith, common_steps, bytes_eq-Decides)

  pub of_other : name ≢ codes "scan" → name ≢ codes "list" → name ≢ codes "totals" → name ≢ codes "follow" → name ≢ codes "encode" → None ≡ request_of name rows input
  of_other scan list totals follow encode = grind (arith, common_steps, differs, codes)

-- the steps of functions that need no answer
pub ruleset request_steps = (common_steps, rules, of_scan, of_list, of_totals, of_follow, of_encode, of_other)
