use Rattle.rds_soft.proofs.Names.{common_steps, ◌≡◌, ℕ, suc, ◌+◌, ◌<◌, List, [], length, get_or, subst, ◌∙◌, arith, get_or-set_same, length-set, the_effect, confidence, Follows}
use Rattle.rds_soft.proofs.RowLemmas.{next_are_least, one_row_more}
use Rattle.rds_soft.proofs.lightest.fill_rows.Goals as goal

pub loop-n-init : goal.loop-n-init
loop-n-init c =
    let confidences : List ℕ = c.args.confidences.now in
    let rows : List (List ℕ) = c.args.rows.now in
    let row : List ℕ = c.fill_first.new.row in
    let first = c.fill_first.ensures (confidence confidences) in
    let here : 0 < length rows = omega (arith, c.requires.rows) in
    record {
      long = length-set rows 0 row ∙ c.requires.rows;
      done = λ k le. grind (arith, common_steps, first, get_or-set_same rows 0 row [] here);
    }

pub loop-n-preserved : goal.loop-n-preserved
loop-n-preserved c =
    let confidences : List ℕ = c.args.confidences.now in
    let rows : List (List ℕ) = c.loop-n.rows in
    let n : ℕ = c.loop-n.n in
    let next : List ℕ = c.fill_next.new.next in
    let small : the_effect n < 1024 = subst (λ (e : ℕ). e < 1024) c.effect.ensures.value c.effect.ensures.small in
    let follow : Follows (get_or rows n []) (the_effect n) (confidence confidences n) next =
    subst (λ (e : ℕ). Follows (get_or rows n []) e (confidence confidences n) next) c.effect.ensures.value c.fill_next.ensures.first in
    let more : n + 1 ≡ suc n = omega arith in
    record {
      long = length-set rows (n + 1) next ∙ c.loop-n.invariant.long;
      done = one_row_more the_effect (confidence confidences) n (n + 1) rows next more
          (omega (arith, c.loop-n-test.true, c.loop-n.invariant.long)) c.loop-n.invariant.done
          (next_are_least the_effect (confidence confidences) n (get_or rows n []) next small
          (c.loop-n.invariant.done n (omega arith)) c.fill_next.ensures.long follow);
    }
