use Rattle.rds_uses.proofs.Names.{[], refl, terms_of, ◌++◌}
use Rattle.rds_uses.proofs.Wholes.{in_chunks}
use Rattle.rds_uses.proofs.library.in_two_chunks.Goals as goal

pub returns-clause-items : goal.returns-clause-items
returns-clause-items c =
    let one = c.in_ok-push_all.ensures in
    let two = c.in_ok-push_all-2.ensures in
    let first = one.heard [] refl in
    in_chunks (terms_of c.args.rules c.args.gaps.now) c.push_all.new.stream c.push_all-2.new.stream c.args.early.now c.args.late.now _ _ _ _ _ _ _ _ _
    one.items two.items c.in_ok-finish.ensures.items first (two.heard c.args.early.now first)

pub returns-clause-totals : goal.returns-clause-totals
returns-clause-totals c =
    let first = c.in_ok-push_all.ensures.heard [] refl in
    c.in_ok-finish.ensures.totals (c.args.early.now ++ c.args.late.now) (c.in_ok-push_all-2.ensures.heard c.args.early.now first)
