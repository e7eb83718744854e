use Rattle.rds_sync.proofs.Names.{◌≡◌, ◌≤◌, ◌+◌, ◌-◌, ℕ, list_any, range_with_len, Signal, has_partner}
use Rattle.rds_sync.proofs.acquiring.has_partner.Given as goal

pub record IsTried (bits now : Signal) (place number distance end before reads : ℕ) : Type 0 where
  pub same : now ≡ bits
  pub reads_few : reads + 1 ≤ before + distance
  pub left : list_any (has_partner bits place number) (range_with_len 1 (end - 1))
      ≡ list_any (has_partner bits place number) (range_with_len distance (end - distance))

abbrev pub invariant-loop-distance : goal.invariant-loop-distance
invariant-loop-distance g l = IsTried (g.T.Tape.signal l.initial.tape) (g.T.Tape.signal l.tape) l.place l.number l.distance l.distance-end
    (g.T.Tape.reads_made l.initial.tape) (g.T.Tape.reads_made l.tape)
