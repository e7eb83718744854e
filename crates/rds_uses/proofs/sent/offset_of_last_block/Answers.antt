use Rattle.rds_uses.proofs.Names.{D, Signal, Some, ap, arith, bits_sent, length, offset_at, sym, ungapped, ◌++◌, ◌+◌, ◌∙◌, ◌∷◌}
use Rattle.rds_uses.proofs.SentAndHeard.{offset-heard}
use Rattle.std.specs.Int.Bits.{xor_zero_r}
use Rattle.rds_uses.proofs.sent.offset_of_last_block.Goals as goal

pub returns : goal.returns
returns c = λ before after words groups small there same.
    let b : Signal = ungapped (before ++ (bits_sent (words ∷ groups) ++ after)) in
    let four = (c.encoded_groups_are_listed.ensures.heard before after (words ∷ groups) small).0.four in
    c.offset.ensures ∙ ap (λ (b : Signal). offset_at b c.args.place) same ∙ ap (offset_at b) (sym there)
    ∙ offset-heard b (length before + 103) four.sent D (omega arith) (four.heard_is ∙ ap Some (xor_zero_r four.sent)) four.block.remainder
