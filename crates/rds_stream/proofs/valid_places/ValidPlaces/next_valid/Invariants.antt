use Rattle.rds_stream.proofs.Names.{◌≤◌, ◌<◌, ◌-◌, ℕ, Signal, IsSection, NoneValid, TellsValidPlaces, ValidPlaces, Section}
use Rattle.rds_stream.proofs.valid_places.ValidPlaces.next_valid.Given as goal

-- no place from `from` to the first of these has an offset, and the known section is one
pub record AreLaterPlaces (b : Signal) (from end : ℕ) (now : ValidPlaces) (known : Section) : Type 0 where
  pub places : TellsValidPlaces b now.next now.ahead now.word
  pub first : now.ahead < end → 25 ≤ now.ahead
  pub from_on : from ≤ now.next
  pub limit : now.ahead ≤ end
  pub over : NoneValid b from now.next
  pub section : IsSection b known.from known.to known.touched

abbrev pub invariant-loop-places : goal.invariant-loop-places
invariant-loop-places l = AreLaterPlaces l.recording l.fn.self.next l.end l.places l.section

abbrev pub decreases-loop-places : goal.decreases-loop-places
decreases-loop-places l = l.end - l.places.ahead
