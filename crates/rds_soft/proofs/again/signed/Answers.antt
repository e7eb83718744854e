use Rattle.rds_soft.proofs.Names.{◌≡◌, ◌∙◌, ℕ, List, sym, arith, length, pos, cast_signed, w8, ext_get_or, get_or-map, length-map, symbols_of}
use Rattle.rds_soft.proofs.again.signed.Goals as goal

pub returns : goal.returns
returns c =
    let bytes : List ℕ = c.args.bytes.now in
    let long : length bytes ≡ 27 = c.told-bytes in
    let same : length c.loop-i.symbols ≡ length (symbols_of bytes) =
    c.loop-i.invariant.long ∙ sym long ∙ sym (length-map bytes (cast_signed w8)) in
    ext_get_or (pos 0) c.loop-i.symbols (symbols_of bytes) same (λ k inside.
    c.loop-i.invariant.each k (omega (arith, inside, c.loop-i.invariant.long, c.loop-i-test.false))
    ∙ sym (get_or-map (cast_signed w8) bytes k 0 (pos 0) (omega (arith, inside, c.loop-i.invariant.long, long))))
