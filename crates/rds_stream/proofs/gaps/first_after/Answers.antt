use Rattle.rds_stream.proofs.Names.{◌≡◌, ◌<◌, ◌≤◌, ℕ, List, Option, Some, None, Bor, sym, subst, length, leb, leb-true, leb-false, arith, rules, true, false, HoldsAt, IsPartitionPoint, IsPartitionPoint-from_clause, IsPartitionedBy-leb, AllEndBy, IsFirstAfter}
use Rattle.std.specs.Option.{MatchOption, option_copied}
use Rattle.rds_stream.proofs.gaps.first_after.Goals as goal

-- the gap after those that end by the place, where there is one
after_those : (gaps : List (ℕ × ℕ)) (place n : ℕ) (found : Option (Bor (ℕ × ℕ)))
    → IsPartitionPoint (λ (gap : ℕ × ℕ). leb gap.1 place ≡ true) (λ (gap : ℕ × ℕ). leb gap.1 place ≡ false) gaps n
    → MatchOption found (length gaps ≤ n) (λ x. (n < length gaps) × HoldsAt (λ y. x.now ≡ y) gaps n)
    → MatchOption (option_copied found) (AllEndBy gaps (length gaps) place) (IsFirstAfter gaps place)
after_those gaps place n None point none = λ k d low high. leb-true _ _ (point.0 k d low (omega (arith, none)))
after_those gaps place n (Some gap) point some = record {
  index = n;
  within = some.0;
  is = λ d. sym (some.1 d);
  past = leb-false _ _ (subst (λ (g : ℕ × ℕ). leb g.1 place ≡ false) (sym (some.1 gap.now)) (point.1 n gap.now (omega arith) some.0));
  before = λ k d low high. leb-true _ _ (point.0 k d low high);
}

pub returns : goal.returns
returns c =
    let gaps = c.args.gaps.now in
    let place = c.args.place in
    let parted = IsPartitionedBy-leb (λ (gap : ℕ × ℕ). gap.1) gaps place c.requires in
    let point = IsPartitionPoint-from_clause (λ (gap : ℕ × ℕ). leb gap.1 place) gaps _ c.partition_point-before.ensures.partitioned parted (λ a r q k. search rules) in
    subst (λ (o : Option (ℕ × ℕ)). MatchOption o (AllEndBy gaps (length gaps) place) (IsFirstAfter gaps place)) (sym c.copied.ensures)
    (after_those gaps place c.partition_point-before.result c.get.result point c.get.ensures.lookup.3)
