use Rattle.rds_sync.proofs.Lemmas.{arith, Searching, Locked, hop-is}
use Rattle.rds_sync.proofs.tape_run.hop.Goals as goal

pub returns-in-Locked-clause-hop : goal.returns-in-Locked-clause-hop
returns-in-Locked-clause-hop g c =
    let kept = c.keep.ensures in
    hop-is c.items_mark_changes.ensures _ _ c.reach.ensures.range.loss.0 c.args.state (Locked c.in-Locked.lock) _ _ _ _ _ _ c.in-Locked.is c.requires.lawful kept.came.forward kept.came.limit kept.came.state kept.quiet kept.cost

pub returns-in-Searching-clause-hop : goal.returns-in-Searching-clause-hop
returns-in-Searching-clause-hop g c =
    let sought = c.seek.ensures in
    hop-is c.items_mark_changes.ensures _ _ c.reach.ensures.range.loss.0 c.args.state Searching _ _ _ _ _ _ c.in-Searching.is c.requires.lawful sought.came.forward (omega (arith, sought.came.limit, c.requires.near)) sought.came.state sought.quiet sought.cost
