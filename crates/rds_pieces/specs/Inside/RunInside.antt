-- The invariant of the type of a piece's run. Its calls tell it of the guess.
use Rattle.std.specs.Prelude.{◌≡◌, ◌-◌, ◌^◌, ◌≤◌}
use Rattle.rds_stream.specs.Recording.{length_of}
use Rattle.rds_sync.specs.{declared.report.Report.Report, declared.state.State.State, Decoding.listed, Totals.totals_of, Ranges.IsInRange}
use Rattle.rds_pieces.specs.{Guess.guess, RunOf.RunOf}

-- items, totals and end state of the guess of its range, of a recording that has at most 2^36 bits, by rules that are in range
pub record IsKept (r : RunOf) (report : Report) (end_state : State) : Type 0 where
  pub inside : (r.from ≤ r.to) × (r.to ≤ length_of r.source)
  pub items_are : report.items ≡ listed r.source r.rules (guess r.source r.rules r.from (r.to - r.from)).1
  pub counted : report.totals ≡ totals_of (guess r.source r.rules r.from (r.to - r.from)).1
  pub ends : end_state ≡ (guess r.source r.rules r.from (r.to - r.from)).0
  pub few : length_of r.source ≤ 2 ^ 36
  pub rules : IsInRange r.rules
