use Rattle.rds_abi.proofs.Shared.{sym, ◌∙◌, leb, leb-true, rules, Bool, true≢false, inl, inr, MatchBool-at_true, MatchBool-at_false, cases_Bool, le-leb, answers_always, RdsGap}
use Rattle.rds_abi.proofs.asked.are_apart.Goals as goal

pub returns : goal.returns
returns c =
    let before : RdsGap → RdsGap → Bool = λ gap next. leb gap.end next.begin in
    let cases = c.is_sorted_by.ensures.cases before (answers_always _ _ _ (λ f a r q k. search rules)) in (
      λ is k d l. leb-true _ _ (sym (MatchBool-at_true _ _ is cases k d l)),
      λ apart. elim (cases_Bool c.is_sorted_by.result) [
        | inl is ↦ is
        | inr is ↦ let one = MatchBool-at_false _ _ is cases in
            absurd (true≢false (sym (le-leb _ _ (apart one.0 (record { begin = 0; end = 0 }) one.1)) ∙ sym (one.2 (record { begin = 0; end = 0 }))))
      ],
    )
