use Rattle.rds_sync.proofs.Lemmas.{◌+◌, ◌*◌, ℕ, [], ◌∷◌, None, get_or, refl, Either, Reading, reading_heard, Read, word-tells, heard-blocks, word-of-outcomes}
use Rattle.rds_sync.proofs.four_blocks.word_heard.Goals as goal

pub returns : goal.returns
returns c b due is =
    let rules = c.args.rules.now in
    let hs = c.args.heard.now in
    let one : Reading = reading_heard (get_or hs 0 None) 1 Either rules.burst in
    let two : Reading = reading_heard (get_or hs 1 None) 2 Either rules.burst in
    let three : Reading = reading_heard (get_or hs 2 None) 3 c.wanted_beside.result rules.burst in
    let four : Reading = reading_heard (get_or hs 3 None) 4 Either rules.burst in
    let word : ℕ = c.outcome-first.result + 16 * (c.outcome-second.result + 16 * (c.outcome-third.result + 16 * c.outcome-fourth.result)) in
    word-tells b rules 1 4 (due + 78) (Read one ∷ Read two ∷ Read three ∷ Read four ∷ [])
    (heard-blocks b rules due hs is c.wanted_beside.result one two three four refl refl c.wanted_beside.ensures refl refl)
    (record { lists = c.bursts_are_listed.ensures; reads = c.readings_follow_the_rule.ensures }) c.burst.ensures.range.burst
    word
    (word-of-outcomes one two three four c.outcome-first.result c.outcome-second.result c.outcome-third.result c.outcome-fourth.result word
    c.outcome-first.ensures.value c.outcome-second.ensures.value c.outcome-third.ensures.value c.outcome-fourth.ensures.value refl)
