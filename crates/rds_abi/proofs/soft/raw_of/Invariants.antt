use Rattle.rds_abi.proofs.Shared.{◌≡◌, take, symbols_of}
use Rattle.rds_abi.proofs.soft.raw_of.Given as goal

abbrev pub invariant-loop-at : goal.invariant-loop-at
invariant-loop-at l = record {
  same : symbols_of l.raw.items ≡ take l.at l.symbols;
}
