use Rattle.std.proofs.Common.{arith}
use Rattle.rds_uses.proofs.softly.read_from_symbols.Goals as goal

pub returns-clause-again : goal.returns-clause-again
returns-clause-again g c =
    c.blocks_are_read_from_symbols.ensures.blocks c.args.recording.now c.args.symbols.now c.args.first c.args.number g.hard c.args.wanted c.args.limit
    c.args.margin (omega (arith, c.get-number.ensures.value, c.get-number.ensures.least)) (omega (arith, c.get-number.ensures.value, c.get-number.ensures.most))
    (omega (arith, c.bits-limit.ensures.value, c.bits-limit.ensures.most)) c.requires.0 c.requires.1.0
