use Rattle.rds_sync.proofs.Names.{◌≡◌, ◌≤◌, ◌-◌, [], IsTally}
use Rattle.rds_sync.proofs.report.run_totals.Given as goal

abbrev pub invariant-stretches : goal.invariant-stretches
invariant-stretches l = record {
  same : l.reader ≡ l.rec;
  limit : l.place ≤ l.to;
  tally : IsTally l.rec l.rules [] l.from l.fn.state l.place l.now (record { totals = l.totals; items = l.added }) l.counts;
}

abbrev pub decreases-stretches : goal.decreases-stretches
decreases-stretches l = l.to - l.place
