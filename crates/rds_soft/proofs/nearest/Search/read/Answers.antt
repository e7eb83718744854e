use Rattle.rds_soft.proofs.Names.{arith, sym, subst}
use Rattle.rds_soft.specs.{Symbols.IsSoftReading}
use Rattle.rds_soft.proofs.nearest.Search.read.Goals as goal

pub returns-clause-rule : goal.returns-clause-rule
returns-clause-rule c =
    subst (IsSoftReading c.args.symbols.now c.args.number c.args.wanted c.args.margin) (sym c.computed.ensures)
    (c.symbols_are_read_so.ensures c.args.symbols.now c.args.number c.args.wanted c.args.margin
    (omega (arith, c.get.ensures.value, c.get.ensures.least)) (omega (arith, c.get.ensures.value, c.get.ensures.most)) (omega (arith, c.weight.ensures.value, c.weight.ensures.most)))
