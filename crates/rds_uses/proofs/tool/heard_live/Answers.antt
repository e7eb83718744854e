use Rattle.rds_uses.proofs.Names.{Err, IfErr-weaker, List, Ok, OnOk, Option, Result, RdsError, subst, sym, ℕ, ◌++◌, ◌∙◌, ◌≡◌}
use Rattle.std.{specs.Io.KnownBytes.Consumes, proofs.lemmas.List.append_cancel_left}
use Rattle.rds_tool.specs.History.{Gave}
use Rattle.rds_uses.proofs.tool.heard_live.Goals as goal

-- the bytes that the reader gave are those that it lost
module _ (given given' : List ℕ) (old new : Option (List ℕ)) (took : Gave given given' (Consumes old new)) where
  consumed : (bytes : List ℕ) → given' ≡ given ++ bytes → Consumes old new bytes
  consumed bytes gave = subst (λ xs. Consumes old new xs) (append_cancel_left given took.0 bytes (sym took.1 ∙ gave)) took.2

  to_end : {T : Type 0} (r : Result T RdsError) (P W : List ℕ → Type 0) (Q : Type 0) → OnOk r (Gave given given' (λ bytes. P bytes × W bytes)) → OnOk r Q
      → OnOk r (Gave given given' (λ bytes. Consumes old new bytes × P bytes × Q))
  to_end (Ok x) P W Q heard end = (heard.0, heard.1, (consumed heard.0 heard.1, heard.2.0, end))
  to_end (Err e) P W Q heard end = tt

pub returns-clause-end : goal.returns-clause-end
returns-clause-end g c = to_end _ _ _ _ c.follow.ensures.all.took _ _ _ _ c.follow.ensures.heard c.follow.ensures.all.end

pub returns-clause-broke : goal.returns-clause-broke
returns-clause-broke g c =
    IfErr-weaker c.follow.result _ _ (λ e b. (b, consumed _ _ _ _ c.follow.ensures.all.took (b.heard ++ b.last) b.gave)) c.follow.ensures.all.broke_off
