use Rattle.rds_code.proofs.Names.{ℕ, ◌/◌, ◌∙◌, ap, subst, bit_xor, shr_and_one, IsTurn, wanted_at, word, B}
use Rattle.rds_code.proofs.OutcomeLemmas.{wanted_by_turn}
use Rattle.rds_code.proofs.outcomes.Outcomes.wanted_after.Goals as goal

pub returns : goal.returns
returns c =
    let turn : ℕ = c.entry-turn.result / 16 in
    c.wanted_at.ensures
    ∙ ap (λ (bit : ℕ). wanted_at (bit_xor turn bit)) (shr_and_one c.args.w 21)
    ∙ wanted_by_turn c.args.w c.args.self.now c.entry-turn.ensures.few turn
    (subst (λ (r : ℕ). IsTurn c.args.self.now (bit_xor r (word B)) turn) c.rem26.ensures.value c.entry-turn.ensures.entry.1)
