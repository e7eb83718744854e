use Rattle.rds_tool.proofs.Names.{◌≡◌, ◌-◌, ◌∙◌, List, ap, arith, length, min, slice_index, subst, sym, take, ℕ, IsCounter, whole}
use Rattle.rds_tool.proofs.CountedBytes.{counted_on}
use Rattle.rds_tool.proofs.counting.Counter.hear.Goals as goal

pub invariant_of-self : goal.invariant_of-self
invariant_of-self g c =
    let s = c.self.inside in
    let ys = c.args.bytes.now in
    let w = c.whole_bytes-whole.ensures.value in
    let few : c.min-room.result ≡ min (whole s.bits - s.count) (length ys) = omega (arith, c.min-room.ensures, c.saturating_sub.ensures, w) in
    subst (λ (xs : List ℕ). IsCounter c.count.new.self s.bits c.saturating_add-self-inside.result c.byte_at-self-inside.result xs) (sym c.note.ensures)
    (counted_on s.bits s.live s.count s.last s.bytes.bytes c.self.invariant c.count.new.self c.saturating_add-self-inside.result c.byte_at-self-inside.result c.min-room.result ys few
    (c.in-Ok.ensures.heard (take (whole s.bits) s.bytes.bytes) c.self.invariant.heard)
    (omega (arith, c.saturating_add-self-inside.ensures))
    (λ early. c.byte_at-self-inside.ensures.kept (omega (arith, early, w)))
    (λ late within. c.byte_at-self-inside.ensures.new (omega (arith, late, w)) (omega (arith, within, w)) ∙ ap (λ (p : ℕ). slice_index ys (p - s.count)) w))
