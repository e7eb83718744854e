use Rattle.rds_sync.proofs.Lemmas.{◌≡◌, length, rules, word-of-four, four_blocks}
use Rattle.rds_sync.proofs.words.word_of_blocks.Goals as goal

pub returns-clause-blocks : goal.returns-clause-blocks
returns-clause-blocks c =
    let bs = c.args.blocks.now in
    let four : length bs ≡ 4 = search rules in
    let are = four_blocks bs c.index-blocks-0.result c.index-blocks-1.result c.index-blocks-2.result c.index-blocks-3.result four in
    word-of-four bs _ _ _ _ are _ _ _ _ c.nibble.ensures.value c.nibble-2.ensures.value c.nibble-3.ensures.value c.nibble-4.ensures.value
    c.nibble.ensures.short c.nibble-2.ensures.short c.nibble-3.ensures.short c.nibble-4.ensures.short
