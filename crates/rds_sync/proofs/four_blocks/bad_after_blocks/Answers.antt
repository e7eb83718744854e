use Rattle.rds_sync.proofs.Lemmas.{◌≡◌, ◌∙◌, ap, ℕ, Bool, Block, List, Loss, map, length, rules, refl, bad_after, good_at, is_valid, outcome_of, good-in, kept-over, four_blocks}
use Rattle.rds_sync.proofs.four_blocks.bad_after_blocks.Goals as goal

good : (loss : Loss) (bs : List Block) (y bad : ℕ) {g : Bool} (block : Block) → g ≡ is_valid block → is_valid block ≡ good_at (map outcome_of bs) y
    → bad_after loss g bad ≡ bad_after loss (good_at (map outcome_of bs) y) bad
good loss bs y bad block is there = ap (λ (t : Bool). bad_after loss t bad) (is ∙ there)

pub returns : goal.returns
returns c =
    let bs = c.args.blocks.now in
    let loss = c.args.loss in
    let four : length bs ≡ 4 = search rules in
    let are = four_blocks bs c.index-blocks-0.result c.index-blocks-1.result c.index-blocks-2.result c.index-blocks-3.result four in
    kept-over loss _ c.args.bad (c.in_ok-first.ensures.bad ∙ good loss bs 1 _ _ c.is_valid.ensures (good-in are 1 _ refl))
    (c.in_ok-second.ensures.bad ∙ good loss bs 2 _ _ c.is_valid-2.ensures (good-in are 2 _ refl))
    (c.in_ok-third.ensures.bad ∙ good loss bs 3 _ _ c.is_valid-3.ensures (good-in are 3 _ refl))
    (c.in_ok-fourth.ensures.bad ∙ good loss bs 4 _ _ c.is_valid-4.ensures (good-in are 4 _ refl))
    c.in_ok-fourth.ensures.lawful c.in_ok-first.ensures.kept c.in_ok-second.ensures.kept c.in_ok-third.ensures.kept c.in_ok-fourth.ensures.kept
