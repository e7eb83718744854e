use Rattle.rds_uses.proofs.Names.{Item, List, drop, subst, take, take-append-drop, totals_of, ℕ}
use Rattle.rds_sync.specs.Counting.{IsRest, TotalsJoin}
use Rattle.rds_uses.proofs.items.totals_of_rest.Goals as goal

-- the totals of the rest of a list are those of all, less those of its first items
totals_rest : (items : List Item) (n : ℕ) → TotalsJoin → IsRest (totals_of (take n items)) (totals_of items) (totals_of (drop n items))
totals_rest items n join =
    subst (λ (whole : List Item). IsRest (totals_of (take n items)) (totals_of whole) (totals_of (drop n items))) (take-append-drop n items)
    (join (take n items) (drop n items))

pub less-requires : goal.less-requires
less-requires c =
    (totals_of (drop c.args.first c.args.items.now), rw (c.of.ensures.value, c.of-2.ensures.value) (totals_rest c.args.items.now c.args.first c.totals_join.ensures))

pub returns : goal.returns
returns c =
    c.less.ensures.value _ (rw (c.of.ensures.value, c.of-2.ensures.value) (totals_rest c.args.items.now c.args.first c.totals_join.ensures))
