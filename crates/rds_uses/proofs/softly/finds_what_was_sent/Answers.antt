use Rattle.rds_uses.proofs.Names.{Correction, HasOneNearest, IsCorrection, IsNearest, List, None, Offset, Option, Some, Wanted, ap₂, arith, bit_xor, subst, sym, xor_lt, ℕ, ◌≡◌, ◌≤◌}
use Rattle.rds_uses.proofs.softly.finds_what_was_sent.Goals as goal

found_is : HasOneNearest → (w x : ℕ) (wanted : Wanted) (confidences : List ℕ) (margin : ℕ) (o : Offset) (wrong : ℕ) (found : Option Correction) → 1 ≤ margin
    → IsNearest w x wanted confidences margin o wrong → IsCorrection w x wanted confidences margin found
    → found ≡ Some (record { offset = o; flips = wrong })
found_is law w x wanted confidences margin o wrong None some near h = absurd (h o wrong near)
found_is law w x wanted confidences margin o wrong (Some found) some near h =
    let same = law w x wanted confidences margin o found.offset wrong found.flips some near h in
    ap₂ (λ (p : Offset) (f : ℕ). Some (record { offset = p; flips = f })) same.0 same.1

pub nearest-requires : goal.nearest-requires
nearest-requires g c = xor_lt 26 c.args.sent c.mask_of.result c.requires.0 c.mask_of.ensures.block

pub returns-clause-found : goal.returns-clause-found
returns-clause-found g c =
    let own = c.requires.1 in
    let wrong = own.1.1.1 in
    let valid = (c.valid_blocks_need_no_flips.ensures c.args.sent c.args.number c.args.wanted c.args.offset c.args.confidences.now own.0 own.1.0 own.1.1.0).0 in
    let near = c.sent_blocks_are_corrected.ensures c.args.sent c.args.number c.args.wanted c.args.confidences.now c.args.margin c.args.offset c.args.wrong
    g.lightest valid wrong.0 wrong.1.0 wrong.1.1.0 wrong.1.1.1 in
    let here = subst (λ (m : ℕ). IsNearest (bit_xor c.args.sent m) c.args.number c.args.wanted c.args.confidences.now c.args.margin c.args.offset c.args.wrong)
    (sym c.mask_of.ensures.value) near.0 in
    found_is c.nearest_blocks_are_alone.ensures (bit_xor c.args.sent c.mask_of.result) c.args.number c.args.wanted c.args.confidences.now c.args.margin
    c.args.offset c.args.wrong c.nearest.result (omega (arith, c.weight-some.ensures.value, c.weight-some.ensures.least)) here c.nearest.ensures

pub returns-clause-weightless : goal.returns-clause-weightless
returns-clause-weightless g c =
    let own = c.requires.1 in
    (c.valid_blocks_need_no_flips.ensures c.args.sent c.args.number c.args.wanted c.args.offset c.args.confidences.now own.0 own.1.0 own.1.1.0).1
