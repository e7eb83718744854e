use Rattle.std.proofs.Common.{◌+◌, ◌*◌, ◌∙◌, refl, sym, arith}
use Rattle.rds_uses.proofs.sync.has_one_end.Goals as goal

pub returns-clause-merged : goal.returns-clause-merged
returns-clause-merged c s t met =
    (c.runs_merge.ensures c.args.recording.now c.args.rules.now s t c.args.from c.args.middle c.args.to c.requires.before c.requires.after met).1

pub returns-clause-sound : goal.returns-clause-sound
returns-clause-sound c j p k sound =
    let b = c.args.recording.now in
    let rules = c.args.rules.now in
    let range = c.numbers-numbers.ensures.range in
    let four = c.runs_converge.ensures.fours b rules j c.args.from p k sound in
    let to = p + 26 * four.0 + 1 in
    let ends = c.runs_converge.ensures.converge b rules range.loss.0 range.some_reach c.args.from to in
    (to, omega (arith, four.1.inside), λ s t one other. ends s one j p k four.0 sound four.1 refl ∙ sym (ends t other j p k four.0 sound four.1 refl))
