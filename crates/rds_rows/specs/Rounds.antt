-- Parts from one number on, and the promises of a call that writes some. The calls of `rounds` and `Gathered` tell
-- both, and no public one.
use Rattle.std.specs.Prelude.{◌++◌, ◌+◌, ◌-◌, ◌<◌, ◌≡◌, ◌≤◌, ℕ, Err, List, Ok, OnErr, OnOk, Result}
use Rattle.rds_rows.specs.{Parts.first_parts, Writes.AppendsBut, Writes.AppendsPrefix, declared.owned_sink.OwnedSink.Ghosts as OwnedSink, declared.sink.Failed.Failed}

-- `count` parts from number `from` on, one after the other
abbrev pub parts_from : (ℕ → List ℕ) → ℕ → ℕ → List ℕ
parts_from part from count = first_parts (λ i. part (from + i)) count

-- the answer of a call with a text for the writer, all but the last bytes of which were written, if the writer was `out` and is now
-- `out'`
pub record IsPut {W : Type 0} (sink : OwnedSink W) (text kept : List ℕ) (out out' : W) (result : Result (Unit {0}) Failed) : Type 0 where
  pub name : sink.name out' ≡ sink.name out
  pub ok : OnOk result (AppendsBut (sink.contents out) (sink.contents out') text kept)
  pub count : OnOk result (sink.failed out' ≡ sink.failed out)
  pub failed : OnErr result (sink.failed out < sink.failed out')
  pub prefix : OnErr result (AppendsPrefix (sink.contents out) (sink.contents out') text)

-- an answer without its value
abbrev pub done : {T : Type 0} → Result T Failed → Result (Unit {0}) Failed
done (Ok value) = Ok tt
done (Err e) = Err e

-- up to which part a round of `parts` in all went that gives this answer
abbrev pub end_of : Result ℕ Failed → ℕ → ℕ
end_of (Ok to) parts = to
end_of (Err e) parts = parts

-- a round from part `first` on, of `parts` in all; it answers the number of the next part, and the
-- text that is kept was `kept` and is now `kept'`
pub record IsRound {W : Type 0} (sink : OwnedSink W) (part : ℕ → List ℕ) (first parts : ℕ) (kept kept' : List ℕ) (out out' : W)
    (result : Result ℕ Failed) : Type 0 where
  pub order : (first < end_of result parts) × (end_of result parts ≤ parts)
  pub put : IsPut sink (kept ++ parts_from part first (end_of result parts - first)) kept' out out' (done result)
