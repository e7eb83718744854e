use Rattle.rds_stream.proofs.Names.{ℕ, sym, ◌∙◌, leb, leb-true, rules, Bool, true≢false, inl, inr, MatchBool-at_true, MatchBool-at_false, cases_Bool, le-leb, answers_always}
use Rattle.rds_stream.proofs.gaps.are_apart.Goals as goal

pub returns : goal.returns
returns c =
    let before : ℕ × ℕ → ℕ × ℕ → Bool = λ gap next. leb gap.1 next.0 in
    let cases = c.is_sorted_by.ensures.cases before (answers_always _ _ _ (λ f a r q k. search rules)) in (
      λ is k d l. leb-true _ _ (sym (MatchBool-at_true _ _ is cases k d l)),
      λ apart. elim (cases_Bool c.is_sorted_by.result) [
        | inl is ↦ is
        | inr is ↦ let one = MatchBool-at_false _ _ is cases in
            absurd (true≢false (sym (le-leb _ _ (apart one.0 (0, 0) one.1)) ∙ sym (one.2 (0, 0))))
      ],
    )
