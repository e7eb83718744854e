-- The row of a group, put together field by field.
use mathlib.Core.Path.{ap₂}
use Rattle.rds_code.specs.declared.offset.Offset.TheVariants as offset
use Rattle.rds_soft.specs.SoftLists.{third_offset, valid_group, word}
use Rattle.rds_soft.specs.declared.soft_item.SoftItem.TheVariants.{Group}
use Rattle.rds_soft.specs.declared.soft_list.ValidGroup.{ValidGroup}
use Rattle.rds_sync.specs.Groups.{differ, type_in, version_of_bit, version_of_offset}
use Rattle.rds_sync.specs.declared.item.Version.{Version}
use Rattle.rds_tool.specs.Listing.{kind_text, version_text, word_text}
use Rattle.std.proofs.Common.{Some}
use Rattle.rds_tool.proofs.Names.{common_steps, arith, Bool, decimal, false, soft_row, sym, ◌++◌, ◌∙◌, ◌∷◌, ◌≡◌, List, [], ap, append_assoc, codes, ℕ, row}

module _ (whole : List ℕ) where
  -- the last field, and the line feed
  last_field : (s mid e : List ℕ) → mid ≡ s ++ 44 ∷ e → whole ≡ mid ++ 10 ∷ [] → whole ≡ s ++ 44 ∷ row (e ∷ [])
  last_field s mid e field feed = feed ∙ ap (λ t. t ++ 10 ∷ []) field ∙ append_assoc s (44 ∷ e) (10 ∷ [])

  -- a field after some text, and the rest of the row
  one_field : (s mid f g : List ℕ) (fs : List (List ℕ)) → mid ≡ s ++ f → whole ≡ mid ++ 44 ∷ row (g ∷ fs) → whole ≡ s ++ row (f ∷ g ∷ fs)
  one_field s mid f g fs field rest = grind (arith, common_steps, row, append_assoc)

  -- the same, with a comma before it
  next_field : (s mid f g : List ℕ) (fs : List (List ℕ)) → mid ≡ s ++ 44 ∷ f → whole ≡ mid ++ 44 ∷ row (g ∷ fs) → whole ≡ s ++ 44 ∷ row (f ∷ g ∷ fs)
  next_field s mid f g fs field rest = grind (arith, common_steps, row, append_assoc)

  pub eight_fields : (old s1 s2 s3 s4 s5 s6 s7 s8 d k v a b c e : List ℕ)
      → s1 ≡ old ++ codes "group," → s2 ≡ s1 ++ d → s3 ≡ s2 ++ 44 ∷ k → s4 ≡ s3 ++ 44 ∷ v
      → s5 ≡ s4 ++ 44 ∷ a → s6 ≡ s5 ++ 44 ∷ b → s7 ≡ s6 ++ 44 ∷ c → s8 ≡ s7 ++ 44 ∷ e → whole ≡ s8 ++ 10 ∷ []
      → whole ≡ old ++ row (codes "group" ∷ d ∷ k ∷ v ∷ a ∷ b ∷ c ∷ e ∷ [])
  eight_fields old s1 s2 s3 s4 s5 s6 s7 s8 d k v a b c e e1 e2 e3 e4 e5 e6 e7 e8 e9 =
      let after7 = last_field s7 s8 e e8 e9 in
      let after6 = next_field s6 s7 c e [] e7 after7 in
      let after5 = next_field s5 s6 b c (e ∷ []) e6 after6 in
      let after4 = next_field s4 s5 a b (c ∷ e ∷ []) e5 after5 in
      let after3 = next_field s3 s4 v a (b ∷ c ∷ e ∷ []) e4 after4 in
      let after2 = next_field s2 s3 k v (a ∷ b ∷ c ∷ e ∷ []) e3 after3 in
      let after1 = one_field s1 s2 d k (v ∷ a ∷ b ∷ c ∷ e ∷ []) e2 after2 in
      after1 ∙ ap (λ t. t ++ row (d ∷ k ∷ v ∷ a ∷ b ∷ c ∷ e ∷ [])) e1 ∙ append_assoc old (codes "group,") (row (d ∷ k ∷ v ∷ a ∷ b ∷ c ∷ e ∷ []))

-- a group of four valid blocks, whose block 3 has the offset of the version that block 2 names
valid-version : (second : ℕ) → version_of_offset (third_offset second) ≡ version_of_bit second
valid-version second = grind (arith, common_steps)

never-differ : (second : ℕ) → differ (version_of_bit second) (version_of_offset (third_offset second)) ≡ false
never-differ second = grind (arith, common_steps)

pub valid-row : (g : ValidGroup)
    → row (codes "group" ∷ decimal g.place ∷ kind_text (Some (type_in (word g 2))) ∷ version_text (version_of_bit (word g 2)) false
    ∷ word_text offset.A (word g 1) ∷ word_text offset.B (word g 2) ∷ word_text (third_offset (word g 2)) (word g 3) ∷ word_text offset.D (word g 4) ∷ [])
    ≡ soft_row (Group (valid_group g))
valid-row g =
    let rest : List (List ℕ) = word_text offset.A (word g 1) ∷ word_text offset.B (word g 2) ∷ word_text (third_offset (word g 2)) (word g 3) ∷ word_text offset.D (word g 4) ∷ [] in
    ap₂ (λ (v : Version) (b : Bool). row (codes "group" ∷ decimal g.place ∷ kind_text (Some (type_in (word g 2))) ∷ version_text v b ∷ rest))
    (sym (valid-version (word g 2))) (sym (never-differ (word g 2)))
