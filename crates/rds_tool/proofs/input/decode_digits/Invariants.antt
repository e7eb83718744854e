use Rattle.rds_tool.proofs.HexDigits.{HasDecoded}
use Rattle.rds_tool.proofs.input.decode_digits.Given as goal

abbrev pub invariant-loop-at : goal.invariant-loop-at
invariant-loop-at l = HasDecoded l.fn.half l.fn.text l.text l.at l.count l.high
