use Rattle.rds_pieces.proofs.Names.{sym, subst, arith, length_of, ItemsOf, IsKept, run_over}
use Rattle.rds_pieces.proofs.CuttingLemmas.{range_inside}
use Rattle.rds_pieces.proofs.run.speculate_into.Goals as goal

pub prove-unreachable-requires : goal.prove-unreachable-requires
prove-unreachable-requires c =
    let r = range_inside (length_of c.args.rec.now) c.args.cutting.now c.requires.fits c.args.j c.from-from.result c.to-to.result c.requires.piece c.from-from.ensures c.to-to.ensures in
    omega (arith, r.1, c.if-prove.true, c.len-len.ensures.value)

pub new-requires : goal.new-requires
new-requires c =
    let r = range_inside (length_of c.args.rec.now) c.args.cutting.now c.requires.fits c.args.j c.from-from.result c.to-to.result c.requires.piece c.from-from.ensures c.to-to.ensures in
    let limit = c.len-len.ensures.limit in
    let value = c.len-len.ensures.value in
    let kept = c.in-Ok.ensures in
    subst (λ (x : ItemsOf). IsKept (run_over x.source x.rules c.from-from.result c.to-to.result) c.in-Ok.report c.in-Ok.end_state) (sym kept.items) (record {
      inside = (omega (arith, r.0), r.1);
      items_are = kept.items;
      counted = kept.totals;
      ends = kept.state;
      few = omega (arith, limit, value);
      rules = c.reach.ensures.range;
    })
