use Rattle.std.proofs.Common.{arith, ap, ap₂, get_or-append-add, length, slice_index_or, ℕ, List, ◌++◌, ◌∙◌, ◌∷◌, ◌≡◌}
use Rattle.rds_soft.specs.declared.soft_item.SoftItem.{SoftItem}
use Rattle.rds_uses.proofs.softly.first_appended.Goals as goal

comes_next : (before more whole : List SoftItem) (count : ℕ) (one : SoftItem) (rest : List SoftItem) → more ≡ one ∷ rest → whole ≡ before ++ more
    → count ≡ length before → slice_index_or whole count one ≡ one
comes_next before more whole count one rest begins are at =
    ap₂ (λ (items : List SoftItem) (k : ℕ). slice_index_or items k one) (are ∙ ap (λ (items : List SoftItem). before ++ items) begins) (omega (arith, at))
    ∙ get_or-append-add before (one ∷ rest) 0 one

pub returns-clause-item : goal.returns-clause-item
returns-clause-item c one rest begins =
    c.get.ensures.value one ∙ comes_next c.args.list.now c.args.more.now _ c.len-count.result one rest begins c.in_ok-append.ensures c.len-count.ensures
