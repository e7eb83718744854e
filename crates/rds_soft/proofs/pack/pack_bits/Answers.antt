use Rattle.rds_soft.proofs.Names.{◌≡◌, ◌+◌, ◌*◌, ◌<◌, ◌∙◌, ℕ, List, length-append, rules, ap, sym, subst, length, take_rest, packed_bit, symbols_of, hard_bit}
use Rattle.rds_soft.proofs.PackLemmas.{next_rest, bits_more}
use Rattle.rds_soft.proofs.pack.pack_bits.Goals as goal

pub loop-left-preserved : goal.loop-left-preserved
loop-left-preserved c =
    let symbols : List ℕ = c.args.symbols.now in
    let left : List ℕ = c.loop-left.left.now in
    let bytes : List ℕ = c.loop-left.bytes.items in
    let pushed = c.in_ok-extend_from_slice.ensures.items in
    let eight : length c.bytes_of.result ≡ 8 = search (rules, c.bytes_of.type_inv, c.bytes_of.auto) in
    let more : length c.extend_from_slice.new.self.items ≡ length bytes + 8 =
    ap length pushed ∙ length-append bytes c.bytes_of.result ∙ ap (λ (n : ℕ). length bytes + n) eight in
    record {
      rest = take_rest left c.min.result ∙ next_rest symbols left (length bytes) c.min.result (length c.extend_from_slice.new.self.items) c.loop-left.invariant.rest c.min.ensures more;
      bits = subst (λ (xs : List ℕ). (i : ℕ) → i < 8 * length xs → i + 1 < length symbols → packed_bit xs i ≡ hard_bit (symbols_of symbols) i) (sym pushed)
          (bits_more symbols left bytes c.bytes_of.result eight c.loop-left.invariant.rest c.loop-left.invariant.bits c.bytes_of.ensures);
    }
