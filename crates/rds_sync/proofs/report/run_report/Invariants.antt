use Rattle.rds_sync.proofs.Names.{◌≡◌, ◌≤◌, ◌-◌, ℕ, Signal, State, RuleNumbers, TallyOf, gone_on, tally_at}
use Rattle.rds_sync.proofs.report.run_report.Given as goal

-- the run has come to its place, by a reader of the recording
pub record HasCome (b read : Signal) (rules : RuleNumbers) (s : State) (from to : ℕ) (now : TallyOf) : Type 0 where
  pub same : read ≡ b
  pub from_on : from ≤ now.place
  pub limit : now.place ≤ to
  pub gone : now ≡ gone_on (tally_at b rules from s) now.place

abbrev pub invariant-loop-reader : goal.invariant-loop-reader
invariant-loop-reader l = HasCome l.rec l.reader l.rules l.fn.state l.from l.to l.tally

abbrev pub decreases-loop-reader : goal.decreases-loop-reader
decreases-loop-reader l = l.to - l.tally.place
