use Rattle.rds_soft.proofs.Names.{◌≡◌, ℕ, ◌+◌, ◌*◌, ◌<◌, length, drop, packed_bit, symbols_of, hard_bit}
use Rattle.rds_soft.proofs.pack.pack_bits.Given as goal

abbrev pub invariant-loop-left : goal.invariant-loop-left
invariant-loop-left l = record {
  rest : l.left ≡ drop (8 * length l.bytes.items) l.symbols;
  bits : (i : ℕ) → i < 8 * length l.bytes.items → i + 1 < length l.symbols
      → packed_bit l.bytes.items i ≡ hard_bit (symbols_of l.symbols) i;
}

abbrev pub decreases-loop-left : goal.decreases-loop-left
decreases-loop-left l = length l.left
