use Rattle.rds_stream.proofs.Names.{◌∙◌, ap, bit_or, get_or, ap₂}
use Rattle.rds_stream.proofs.Agreement.{offset_bit, told}
use Rattle.rds_stream.proofs.valid_places.offset_words.Goals as goal

pub returns : goal.returns
returns c j k remainder l m held =
    let first = c.either-first.ensures.each j l in
    let third = c.either-third.ensures.each j l in
    let four = c.either.ensures.each j l ∙ ap₂ bit_or first third in
    let d = get_or c.equal_to-5.result j 0 in
    offset_bit remainder (get_or c.equal_to.result j 0) (get_or c.equal_to-2.result j 0) (get_or c.equal_to-3.result j 0) (get_or c.equal_to-4.result j 0) d _ k
    (told _ k remainder _ _ c.word.ensures (c.equal_to.ensures j k remainder l m held))
    (told _ k remainder _ _ c.word-2.ensures (c.equal_to-2.ensures j k remainder l m held))
    (told _ k remainder _ _ c.word-3.ensures (c.equal_to-3.ensures j k remainder l m held))
    (told _ k remainder _ _ c.word-4.ensures (c.equal_to-4.ensures j k remainder l m held))
    (told _ k remainder _ _ c.word-5.ensures (c.equal_to-5.ensures j k remainder l m held))
    (c.either-2.ensures.each j l ∙ ap (λ x. bit_or x d) four)
