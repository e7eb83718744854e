-- Totals of items read again.
use Rattle.rds_soft.proofs.Names.{◌≡◌, common_steps, ℕ, ◌+◌, ◌*◌, List, [], ◌∷◌, ◌++◌, ◌<◌, append_assoc, arith, length, slice_index, slice_index_or, take, take_more, SoftItem, InSoft, soft_totals_of, plus}
use Rattle.std.proofs.lemmas.List.Sums.{sum_by-append}
use Rattle.rds_soft.specs.{Inside.Totals.clean, SoftLists.valid_group, declared.soft_list.ValidGroup.ValidGroup, declared.soft_totals.SoftTotals.SoftTotals}

-- those of two lists, one after the other
pub soft_totals_of_append : (xs ys : List SoftItem) → soft_totals_of (xs ++ ys) ≡ plus (soft_totals_of xs) (soft_totals_of ys)
soft_totals_of_append xs ys = simp sum_by-append

-- sums in another order
turn : (x y z : ℕ) → x + y + z ≡ x + z + y
turn x y z = omega arith

pub plus-turned : (t u v : SoftTotals) → plus (plus t u) v ≡ plus (plus t v) u
plus-turned t u v =
    λ j. record {
      totals = record {
        valid = turn t.totals.valid u.totals.valid v.totals.valid j;
        bursts = turn (slice_index t.totals.bursts 0) (slice_index u.totals.bursts 0) (slice_index v.totals.bursts 0) j ∷ turn (slice_index t.totals.bursts 1) (slice_index u.totals.bursts 1) (slice_index v.totals.bursts 1) j ∷ turn (slice_index t.totals.bursts 2) (slice_index u.totals.bursts 2) (slice_index v.totals.bursts 2) j ∷ turn (slice_index t.totals.bursts 3) (slice_index u.totals.bursts 3) (slice_index v.totals.bursts 3) j ∷ turn (slice_index t.totals.bursts 4) (slice_index u.totals.bursts 4) (slice_index v.totals.bursts 4) j ∷ [];
        lost = turn t.totals.lost u.totals.lost v.totals.lost j;
        bits = turn t.totals.bits u.totals.bits v.totals.bits j;
        groups = turn t.totals.groups u.totals.groups v.totals.groups j;
        complete = turn t.totals.complete u.totals.complete v.totals.complete j;
        acquired = turn t.totals.acquired u.totals.acquired v.totals.acquired j;
        losses = turn t.totals.losses u.totals.losses v.totals.losses j;
      };
      flipped = turn (slice_index t.flipped 0) (slice_index u.flipped 0) (slice_index v.flipped 0) j ∷ turn (slice_index t.flipped 1) (slice_index u.flipped 1) (slice_index v.flipped 1) j ∷ turn (slice_index t.flipped 2) (slice_index u.flipped 2) (slice_index v.flipped 2) j ∷ turn (slice_index t.flipped 3) (slice_index u.flipped 3) (slice_index v.flipped 3) j ∷ turn (slice_index t.flipped 4) (slice_index u.flipped 4) (slice_index v.flipped 4) j ∷ turn (slice_index t.flipped 5) (slice_index u.flipped 5) (slice_index v.flipped 5) j ∷ [];
    }

-- one valid group more
same : (x : ℕ) → x + 0 + 0 ≡ x + 0
same x = omega arith

one : (x n : ℕ) → x + n + 1 ≡ x + (n + 1)
one x n = omega arith

four : (x n : ℕ) → x + 4 * n + 4 ≡ x + 4 * (n + 1)
four x n = omega arith

pub one_clean : (t : SoftTotals) (n : ℕ) (group : ValidGroup) → plus (plus t (clean n)) (soft_totals_of (InSoft (valid_group group) ∷ [])) ≡ plus t (clean (n + 1))
one_clean t n group =
    λ j. record {
      totals = record {
        valid = four t.totals.valid n j;
        bursts = same (slice_index t.totals.bursts 0) j ∷ same (slice_index t.totals.bursts 1) j ∷ same (slice_index t.totals.bursts 2) j ∷ same (slice_index t.totals.bursts 3) j ∷ same (slice_index t.totals.bursts 4) j ∷ [];
        lost = same t.totals.lost j;
        bits = same t.totals.bits j;
        groups = one t.totals.groups n j;
        complete = one t.totals.complete n j;
        acquired = same t.totals.acquired j;
        losses = same t.totals.losses j;
      };
      flipped = same (slice_index t.flipped 0) j ∷ same (slice_index t.flipped 1) j ∷ same (slice_index t.flipped 2) j ∷ same (slice_index t.flipped 3) j ∷ same (slice_index t.flipped 4) j ∷ same (slice_index t.flipped 5) j ∷ [];
    }

-- one item more
pub next_item : (before items : List SoftItem) (i : ℕ) (item : SoftItem) → i < length items → item ≡ slice_index_or items i item
    → plus (soft_totals_of (before ++ take i items)) (soft_totals_of (item ∷ [])) ≡ soft_totals_of (before ++ take (i + 1) items)
next_item before items i item inside is = grind (arith, common_steps, soft_totals_of_append, append_assoc, take_more)
