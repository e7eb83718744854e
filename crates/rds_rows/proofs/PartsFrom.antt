-- Parts from one number on, and how they are written.
use Rattle.rds_rows.proofs.Names.{common_steps, ◌+◌, ◌++◌, ◌-◌, ◌<◌, ◌≡◌, ◌≤◌, ◌∙◌, ℕ, Err, List, Ok, Option, Result, ap, append_assoc, arith, subst, suc, sym, zero, append-nil, first_parts, parts_from, AppendsBut, AppendsPrefix}
use Rattle.rds_rows.proofs.Steps.{but_more, but_prefix_more, prefix_wider}
use Rattle.std.specs.Prelude.{[], OnOk}
use Rattle.rds_rows.specs.{Rounds.IsPut, Rounds.IsRound, Rounds.done, Rounds.end_of, declared.owned_sink.OwnedSink.Ghosts as OwnedSink, declared.sink.Failed.Failed}

-- and the next
pub parts_next : (part : ℕ → List ℕ) (from k : ℕ) → from ≤ k → parts_from part from (k - from) ++ part k ≡ parts_from part from (k + 1 - from)
parts_next part from k h = grind (arith, common_steps)

-- after the first ones
pub parts_joined : (part : ℕ → List ℕ) (a n : ℕ) → first_parts part a ++ parts_from part a n ≡ first_parts part (a + n)
parts_joined part a zero = grind (arith, common_steps, append-nil)
parts_joined part a (suc n) =
    let next : suc (a + n) ≡ a + suc n = omega arith in
    sym (append_assoc (first_parts part a) (parts_from part a n) (part (a + n)))
    ∙ ap (λ w. w ++ part (a + n)) (parts_joined part a n)
    ∙ ap (first_parts part) next

-- up to a number
pub parts_up_to : (part : ℕ → List ℕ) (a b : ℕ) → a ≤ b → first_parts part a ++ parts_from part a (b - a) ≡ first_parts part b
parts_up_to part a b h = grind (arith, common_steps, parts_joined)

-- more parts begin with fewer
parts_wider : (part : ℕ → List ℕ) (n more : ℕ) → (rest : List ℕ) × (first_parts part (n + more) ≡ first_parts part n ++ rest)
parts_wider part n zero = grind (arith, common_steps, append-nil)
parts_wider part n (suc more) =
    let fewer = parts_wider part n more in
    let next : n + suc more ≡ suc (n + more) = omega arith in
    (fewer.0 ++ part (n + more), ap (first_parts part) next ∙ ap (λ w. w ++ part (n + more)) fewer.1 ∙ append_assoc (first_parts part n) fewer.0 (part (n + more)))

pub parts_begin : (part : ℕ → List ℕ) (m n : ℕ) → m ≤ n → (rest : List ℕ) × (first_parts part n ≡ first_parts part m ++ rest)
parts_begin part m n h =
    let all : n ≡ m + (n - m) = omega (arith, h) in
    let wider = parts_wider part m (n - m) in
    (wider.0, ap (first_parts part) all ∙ wider.1)

-- ---- written

-- a text after one that was written but for its end
pub put_more : {W : Type 0} (sink : OwnedSink W) (xs ys kept last : List ℕ) (out mid out' : W) (result : Result (Unit {0}) Failed)
    → sink.name mid ≡ sink.name out → AppendsBut (sink.contents out) (sink.contents mid) xs kept → sink.failed mid ≡ sink.failed out
    → IsPut sink (kept ++ ys) last mid out' result → IsPut sink (xs ++ ys) last out out' result
put_more sink xs ys kept last out mid out' (Ok value) name wrote count put =
    record { name = put.name ∙ name; ok = but_more _ _ _ xs ys kept last wrote put.ok; count = put.count ∙ count; failed = tt; prefix = tt }
put_more sink xs ys kept last out mid out' (Err e) name wrote count put =
    record { name = put.name ∙ name; ok = tt; count = tt; failed = subst (λ n. n < sink.failed out') count put.failed; prefix = but_prefix_more _ _ _ xs ys kept wrote put.prefix }

-- the end itself
pub put_rest : {W : Type 0} (sink : OwnedSink W) (xs kept last : List ℕ) (out mid out' : W) (result : Result (Unit {0}) Failed)
    → sink.name mid ≡ sink.name out → AppendsBut (sink.contents out) (sink.contents mid) xs kept → sink.failed mid ≡ sink.failed out
    → IsPut sink kept last mid out' result → IsPut sink xs last out out' result
put_rest sink xs kept last out mid out' result name wrote count put =
    subst (λ text. IsPut sink text last out out' result) (append-nil xs)
    (put_more sink xs [] kept last out mid out' result name wrote count (subst (λ text. IsPut sink text last mid out' result) (sym (append-nil kept)) put))

-- if nothing is kept after a success
pub put_all : {W : Type 0} (sink : OwnedSink W) (text kept : List ℕ) (out out' : W) (result : Result (Unit {0}) Failed) → IsPut sink text kept out out' result
    → OnOk result (kept ≡ []) → IsPut sink text [] out out' result
put_all sink text kept out out' (Ok value) put none = subst (λ k. IsPut sink text k out out' (Ok value)) none put
put_all sink text kept out out' (Err e) put none = record { name = put.name; ok = tt; count = tt; failed = put.failed; prefix = put.prefix }

-- the next part of a round
pub put_next : {W : Type 0} (sink : OwnedSink W) (part : ℕ → List ℕ) (first k : ℕ) (head kept last : List ℕ) (out mid out' : W) (result : Result (Unit {0}) Failed) → first ≤ k
    → sink.name mid ≡ sink.name out → AppendsBut (sink.contents out) (sink.contents mid) (head ++ parts_from part first (k - first)) kept → sink.failed mid ≡ sink.failed out
    → IsPut sink (kept ++ part k) last mid out' result → IsPut sink (head ++ parts_from part first (k + 1 - first)) last out out' result
put_next sink part first k head kept last out mid out' result h name wrote count put =
    let all = append_assoc head (parts_from part first (k - first)) (part k) ∙ ap (λ w. head ++ w) (parts_next part first k h) in
    subst (λ text. IsPut sink text last out out' result) all (put_more sink (head ++ parts_from part first (k - first)) (part k) kept last out mid out' result name wrote count put)

-- a prefix of some parts of a round is one of all
pub prefix_of_round : (a b : Option (List ℕ)) (part : ℕ → List ℕ) (first k parts : ℕ) (head : List ℕ) → k < parts
    → AppendsPrefix a b (head ++ parts_from part first (k + 1 - first)) → AppendsPrefix a b (head ++ parts_from part first (parts - first))
prefix_of_round a b part first k parts head less p =
    let begin = parts_begin (λ i. part (first + i)) (k + 1 - first) (parts - first) (omega (arith, less)) in
    let whole : (head ++ parts_from part first (k + 1 - first)) ++ begin.0 ≡ head ++ parts_from part first (parts - first) = append_assoc head (parts_from part first (k + 1 - first)) begin.0 ∙ ap (λ w. head ++ w) (sym begin.1) in
    subst (AppendsPrefix a b) whole (prefix_wider a b (head ++ parts_from part first (k + 1 - first)) begin.0 p)

-- a round after others
pub round_more : {W : Type 0} (sink : OwnedSink W) (part : ℕ → List ℕ) (first parts : ℕ) (kept kept' : List ℕ) (out mid out' : W) (result : Result ℕ Failed)
    → sink.name mid ≡ sink.name out → AppendsBut (sink.contents out) (sink.contents mid) (first_parts part first) kept → sink.failed mid ≡ sink.failed out
    → IsRound sink part first parts kept kept' mid out' result → IsPut sink (first_parts part (end_of result parts)) kept' out out' (done result)
round_more sink part first parts kept kept' out mid out' result name wrote count round =
    subst (λ text. IsPut sink text kept' out out' (done result)) (parts_up_to part first (end_of result parts) (omega (arith, round.order.0)))
    (put_more sink (first_parts part first) (parts_from part first (end_of result parts - first)) kept kept' out mid out' (done result) name wrote count round.put)
