-- The words that a text spells, and the listing of groups that were sent from bit 0 on.
use Rattle.std.specs.{Fmt.digits, Prelude.◌≡◌, Prelude.[], Prelude.◌∷◌, Prelude.◌++◌, Prelude.ℕ, Prelude.List, Prelude.Err, Prelude.Ok, Prelude.codes, Prelude.flat_map, Prelude.refl}
use Rattle.hex.specs.Hex.{decode_pairs}
use Rattle.rds_tool.specs.{Laws.groups_in, Laws.sent_listing, Examples.Words.line}
use Rattle.rds_code.specs.declared.error.RdsError.TheVariants.{GroupText}

abbrev first : List ℕ
first = 0xD393 ∷ 0x0548 ∷ 0xE100 ∷ 0x5041 ∷ []

abbrev second : List ℕ
second = 0xD393 ∷ 0x0549 ∷ 0xE100 ∷ 0x584F ∷ []

-- an empty line spells no group
pub spelled : groups_in (line (codes "D393 0548 E100 5041") ++ line [] ++ line (codes "d3930549e100584f"))
    ≡ Ok (first ∷ second ∷ [])
unfolding decode_pairs
spelled = refl

pub misspelled : groups_in (line (codes "D393 0548 E100 5041") ++ line (codes "D393")) ≡ Err GroupText
unfolding decode_pairs
misspelled = refl

-- the first group lacks block 1, the second one begins 104 bits on; 7 of their 8 blocks are counted
pub two_groups : sent_listing first (second ∷ []) ≡ flat_map line
    (codes "acquired,51,2,-,-,-,-,-"
    ∷ codes "group,26,0,A,none,B:0548,C:E100,D:5041"
    ∷ codes "group,104,0,A,A:D393,B:0549,C:E100,D:584F"
    ∷ codes "total,valid,7,-,-,-,-,-"
    ∷ codes "total,burst1,0,-,-,-,-,-"
    ∷ codes "total,burst2,0,-,-,-,-,-"
    ∷ codes "total,burst3,0,-,-,-,-,-"
    ∷ codes "total,burst4,0,-,-,-,-,-"
    ∷ codes "total,burst5,0,-,-,-,-,-"
    ∷ codes "total,lost,0,-,-,-,-,-"
    ∷ codes "total,bits,0,-,-,-,-,-"
    ∷ codes "total,groups,2,-,-,-,-,-"
    ∷ codes "total,complete,1,-,-,-,-,-"
    ∷ codes "total,acquired,1,-,-,-,-,-"
    ∷ codes "total,losses,0,-,-,-,-,-"
    ∷ [])
unfolding digits
two_groups = refl
