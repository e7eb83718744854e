use Rattle.std.proofs.Common.{◌++◌, ◌∙◌, ◌≡◌, List, [], append_assoc, ap, ℕ}
use Rattle.rds_tool.proofs.following.rows_to_end.Goals as goal

-- what was appended to nothing one after another was appended together
appended : (old mid late new items group totals : List ℕ) → old ≡ [] → mid ≡ old ++ items → late ≡ mid ++ group → new ≡ late ++ totals → new ≡ items ++ (group ++ totals)
appended old mid late new items group totals none first second third =
    third ∙ ap (λ (xs : List ℕ). xs ++ totals) (second ∙ ap (λ (xs : List ℕ). xs ++ group) (first ∙ ap (λ (xs : List ℕ). xs ++ items) none))
    ∙ append_assoc items group totals

pub returns-clause-rows : goal.returns-clause-rows
returns-clause-rows c =
    appended _ _ _ _ _ _ _ c.new-text.ensures.items c.in_ok-push_items.ensures c.in_ok-push_last_group.ensures.text c.in_ok-push_totals.ensures.rows
