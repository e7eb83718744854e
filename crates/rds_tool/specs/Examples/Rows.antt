-- A row of each kind, with each form of its fields.
use Rattle.std.specs.Prelude.{◌≡◌, ℕ, Bool, List, [], ◌∷◌, ◌++◌, None, Some, codes, false, map, refl, true}
use Rattle.std.specs.{Fmt.digits, List.flat_map}
use Rattle.rds_sync.specs.declared.{item.Version.Version, item.Block.TheVariants.Missing, item.Block.TheVariants.Read, item.Item.Item, item.Item.TheVariants.Acquired, item.Item.TheVariants.Group, item.Item.TheVariants.LostLock, totals.Totals.Totals}
use Rattle.rds_code.specs.declared.{offset.Offset.TheVariants.A, offset.Offset.TheVariants.B, offset.Offset.TheVariants.C, offset.Offset.TheVariants.Cx, offset.Offset.TheVariants.D, reading.Reading.TheVariants.Corrected, reading.Reading.TheVariants.Lost, reading.Reading.TheVariants.Valid}
use Rattle.rds_sync.specs.declared.item.Version.TheVariants as version
use Rattle.rds_tool.specs.{Listing.block_text, Listing.item_row, Listing.kind_text, Listing.report_text, Listing.totals_text, Listing.version_text, Listing.window_row, Examples.Words.line}

-- ---- blocks

-- four digits in upper case, after the offset's name; then the burst in seven
pub blocks : map block_text
    (Missing ∷ Read Lost ∷ map (λ offset. Read (Valid offset 0x0BEF)) (A ∷ B ∷ C ∷ Cx ∷ D ∷ [])
    ++ Read (Corrected C 0xFACE 0x0008000) ∷ Read (Corrected Cx 0x0001 0x3E00000) ∷ [])
    ≡ codes "none" ∷ codes "lost" ∷ codes "A:0BEF" ∷ codes "B:0BEF" ∷ codes "C:0BEF" ∷ codes "Cx:0BEF" ∷ codes "D:0BEF"
    ∷ codes "C:FACE~0008000" ∷ codes "Cx:0001~3E00000" ∷ []
blocks = refl

-- ---- groups

-- types are decimal, and not cut to a digit
pub kinds : map kind_text (None ∷ Some 0 ∷ Some 9 ∷ Some 10 ∷ Some 15 ∷ [])
    ≡ codes "-" ∷ codes "0" ∷ codes "9" ∷ codes "10" ∷ codes "15" ∷ []
unfolding digits
kinds = refl

pub versions : map (λ (row : Version × Bool). version_text row.0 row.1)
    ((version.A, false) ∷ (version.B, false) ∷ (version.Unknown, false) ∷ (version.A, true) ∷ (version.B, true) ∷ [])
    ≡ codes "A" ∷ codes "B" ∷ codes "?" ∷ codes "A!" ∷ codes "B!" ∷ []
versions = refl

-- ---- items

-- a group of type 15, whose block 3 says version B and block 2 version A
abbrev pub in_conflict : Item
in_conflict = Group (record {
  place = 104;
  blocks = Read Lost ∷ Read (Corrected B 0xF0E1 0x0000001) ∷ Read (Valid Cx 0xD393) ∷ Missing ∷ [];
  kind = Some 15;
  version = version.B;
  conflict = true;
})

abbrev pub unknown : Item
unknown = Group (record {
  place = 0;
  blocks = Read (Valid A 0x1234) ∷ Missing ∷ Missing ∷ Missing ∷ [];
  kind = None;
  version = version.Unknown;
  conflict = false;
})

pub items : map item_row (Acquired 51 2 ∷ LostLock 1129 ∷ in_conflict ∷ unknown ∷ [])
    ≡ map line (
    codes "acquired,51,2,-,-,-,-,-" ∷ codes "lost,1129,-,-,-,-,-,-" ∷ codes "group,104,15,B!,lost,B:F0E1~0000001,Cx:D393,none"
    ∷ codes "group,0,-,?,A:1234,none,none,none" ∷ [])
unfolding digits
items = refl

-- ---- totals

abbrev pub one_to_twelve : Totals
one_to_twelve = record {
  valid = 1;
  bursts = 2 ∷ 3 ∷ 4 ∷ 5 ∷ 6 ∷ [];
  lost = 7;
  bits = 8;
  groups = 9;
  complete = 10;
  acquired = 11;
  losses = 12;
}

abbrev pub rows_of_totals : List ℕ
rows_of_totals =
    line (codes "total,valid,1,-,-,-,-,-")
    ++ line (codes "total,burst1,2,-,-,-,-,-")
    ++ line (codes "total,burst2,3,-,-,-,-,-")
    ++ line (codes "total,burst3,4,-,-,-,-,-")
    ++ line (codes "total,burst4,5,-,-,-,-,-")
    ++ line (codes "total,burst5,6,-,-,-,-,-")
    ++ line (codes "total,lost,7,-,-,-,-,-")
    ++ line (codes "total,bits,8,-,-,-,-,-")
    ++ line (codes "total,groups,9,-,-,-,-,-")
    ++ line (codes "total,complete,10,-,-,-,-,-")
    ++ line (codes "total,acquired,11,-,-,-,-,-")
    ++ line (codes "total,losses,12,-,-,-,-,-")

pub totals_rows : totals_text one_to_twelve ≡ rows_of_totals
unfolding digits
totals_rows = refl

-- the items in order, and then the totals
pub report_rows : report_text (Acquired 51 2 ∷ unknown ∷ LostLock 77 ∷ []) one_to_twelve
    ≡ line (codes "acquired,51,2,-,-,-,-,-") ++ line (codes "group,0,-,?,A:1234,none,none,none")
    ++ line (codes "lost,77,-,-,-,-,-,-") ++ rows_of_totals
unfolding digits
report_rows = refl

-- ---- windows

pub window_rows : flat_map window_row ((25, A) ∷ (77, Cx) ∷ (103, D) ∷ [])
    ≡ line (codes "25,A") ++ line (codes "77,Cx") ++ line (codes "103,D")
unfolding digits
window_rows = refl
