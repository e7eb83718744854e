use Rattle.rds_sync.proofs.Names.{◌≡◌, ◌≤◌, ◌+◌, ◌-◌, ◌⊎◌, ℕ, List, [], Signal, Block, Lock, Locked, IsLawfulLock, IsInProgress, RuleNumbers, run}
use Rattle.rds_sync.proofs.follow.follow_group.Given as goal

-- the run is in this lock before the bit at some place, with the blocks of its group, and gave nothing; what was read is the
-- recording
pub record HasFollowed (b read : Signal) (rules : RuleNumbers) (lock : Lock) (place to : ℕ) (now : Lock) (blocks : List Block) (reads : ℕ) : Type 0 where
  pub same : read ≡ b
  pub next : ℕ
  pub from_on : place ≤ next
  pub limit : next ≤ to
  pub lawful : IsLawfulLock rules next now
  pub in_progress : IsInProgress b rules now blocks
  pub so_far : run b rules (Locked lock) place (next - place) ≡ (Locked now, [])
  pub later : (now.due ≡ lock.due) ⊎ (lock.due + 26 ≤ now.due)
  pub cost : reads ≤ now.number - now.first

abbrev pub invariant-loop-now : goal.invariant-loop-now
invariant-loop-now g l = HasFollowed (g.T.Tape.signal l.fn.tape) (g.T.Tape.signal l.tape) l.rules l.fn.lock l.place l.to l.now l.blocks (g.T.Tape.reads_made l.tape - g.T.Tape.reads_made l.fn.tape)

abbrev pub decreases-loop-now : goal.decreases-loop-now
decreases-loop-now g l = l.to - l.now.due
