use Rattle.std.proofs.Common.{None, Option, Some, refl, ◌≡◌, ◌≢◌, ◌≤◌}
use Rattle.std.specs.{Int.Count.ones, Prelude.IfSome}
use Rattle.rds_uses.proofs.Names.{bit_xor, number, offset_of, rem}
use Rattle.rds_uses.proofs.sent.offset_of_damaged.Goals as goal

-- a fact of what was found, whatever that is
if_some : {A : Type 0} (found : Option A) (P : A → Type 0) → ((a : A) → found ≡ Some a → P a) → IfSome found P
if_some None P each = tt
if_some (Some a) P each = each a refl

pub returns-clause-two : goal.returns-clause-two
returns-clause-two c =
    let sent = c.encode_block.result in
    if_some c.offset_of.result (λ other. 1 ≤ ones c.args.damage → ones c.args.damage ≤ 2 → number other ≢ number c.args.offset)
    (λ other is some few own.
    let offset : offset_of (rem (bit_xor sent c.args.damage)) ≡ Some other = cc in
    c.damage_is_detected.ensures.bits sent c.args.info c.args.offset other c.args.damage c.encode_block.ensures.block c.requires some few (record { offset = offset; own = own }))
