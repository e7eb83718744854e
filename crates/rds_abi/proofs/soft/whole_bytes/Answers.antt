use Rattle.rds_abi.proofs.Shared.{Fits, rules, ◌≡◌, ◌-◌, ◌/◌, ◌∙◌, ℕ, ap, arith, get_or, length, take, w8}
use Rattle.rds_abi.proofs.SoftSymbols.{packed-bytes}
use Rattle.rds_abi.proofs.soft.whole_bytes.Goals as goal

pub returns : goal.returns
returns c =
    let packed = c.args.packed.now in
    let symbols = c.args.symbols.now in
    let fits : (k : ℕ) → Fits w8 (get_or packed k 0) = λ k. search rules in
    let count : c.saturating_sub.result / 8 ≡ (length symbols - 1) / 8 = omega (arith, c.saturating_sub.ensures) in
    ap (λ (n : ℕ). take n packed) count ∙ packed-bytes packed symbols (λ k. (fits k).fits) c.requires.enough c.requires.bits
