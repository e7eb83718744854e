use Rattle.std.proofs.Common.{◌+◌, ◌∙◌, arith}
use Rattle.rds_soft.proofs.PackLemmas.{same_bit}
use Rattle.rds_soft.proofs.pack.last_bytes.Goals as goal

pub returns : goal.returns
returns c = λ i low inside.
    c.bytes_between.ensures i low
    ∙ same_bit c.loop-i.chunk c.args.symbols.now i i (omega (arith, c.loop-i.invariant.long, low)) inside
    (c.loop-i.invariant.each i (omega (arith, inside, c.loop-i-test.false)))
    (c.loop-i.invariant.each (i + 1) (omega (arith, inside, c.loop-i-test.false)))
