-- Worked examples: groups as they are sent.
use Rattle.std.specs.Prelude.{◌≡◌, ℕ, ◌*◌, ◌%◌, ◌^◌, List, [], ◌∷◌, map, refl}
use Rattle.rds_code.specs.{Remainder.rem, Encoding.encoded_group}

-- the lowest ten bits of each block
abbrev pub checkwords : List ℕ → List ℕ
checkwords words = map (λ w. w % 2 ^ 10) (encoded_group words)

pub zero_group : checkwords (0 ∷ 0 ∷ 0 ∷ 0 ∷ []) ≡ 0x0FC ∷ 0x198 ∷ 0x168 ∷ 0x1B4 ∷ []
unfolding rem
zero_group = refl

-- with the version bit set block 3 has C'
pub zero_group_of_version_b : checkwords (0 ∷ 0x0800 ∷ 0 ∷ 0 ∷ []) ≡ 0x0FC ∷ 0x2C1 ∷ 0x350 ∷ 0x1B4 ∷ []
unfolding rem
zero_group_of_version_b = refl

pub group_with_text : checkwords (0x1234 ∷ 0x2540 ∷ 0x5244 ∷ 0x5320 ∷ []) ≡ 0x06A ∷ 0x1AC ∷ 0x256 ∷ 0x3FB ∷ []
unfolding rem
group_with_text = refl

-- the same words, before the offset words are added
pub without_offsets : map (λ info. rem (info * 2 ^ 10)) (0x1234 ∷ 0x2540 ∷ 0x5244 ∷ 0x5320 ∷ [])
    ≡ 0x096 ∷ 0x034 ∷ 0x33E ∷ 0x24F ∷ []
unfolding rem
without_offsets = refl
