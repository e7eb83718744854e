use Rattle.rds_uses.proofs.Names.{C, Either, ap, arith, bit_xor, refl, ℕ, ◌∙◌}
use Rattle.rds_code.specs.{declared.reading.Wanted.TheVariants.OnlyC, Reading.reading}
use Rattle.rds_uses.proofs.code.damaged_and_read.Goals as goal

pub returns-clause-others : goal.returns-clause-others
returns-clause-others c not_third =
    let law = c.damaged_blocks_are_corrected.ensures.corrected c.encode_block.result c.args.info c.args.offset Either c.args.limit c.args.burst
    c.encode_block.ensures.block not_third (omega arith) c.requires in
    cc

pub returns-clause-third : goal.returns-clause-third
returns-clause-third c other =
    c.read_block-2.ensures.value
    ∙ ap (λ (w : ℕ). reading w 3 OnlyC c.args.limit) (c.damaged-third.ensures.value ∙ ap (λ (e : ℕ). bit_xor c.encode_block-2.result e) c.pattern-2.ensures.value)
    ∙ c.damaged_blocks_are_corrected.ensures.third c.encode_block-2.result c.args.info C c.args.limit c.args.burst c.encode_block-2.ensures.block refl
    (omega arith) c.requires other

pub returns-clause-that_one : goal.returns-clause-that_one
returns-clause-that_one c is =
    let law = (c.damaged_blocks_are_corrected.ensures.but_one c.encode_block-2.result c.args.info C c.args.burst c.encode_block-2.ensures.block refl
    c.pattern-2.ensures.burst).1 is in
    let offset = law.offset in
    cc
