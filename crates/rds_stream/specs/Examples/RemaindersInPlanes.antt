-- The remainders of the windows of the zero group at the places 25 to 88, as ten planes.
use Rattle.std.{specs.Prelude.◌≡◌, specs.Prelude.◌-◌, specs.Prelude.◌<◌, specs.Prelude.◌==◌, specs.Prelude.List, specs.Prelude.[], specs.Prelude.◌∷◌, specs.Prelude.ℕ, specs.Prelude.get_or, specs.Prelude.map, specs.Prelude.refl, specs.Prelude.slice_index, specs.List.range_with_len, specs.Int.bit_at, specs.Int.Digits.number_from_digits, proofs.Common.◌∙◌, proofs.Common.ap, proofs.Common.sym, proofs.Math.Nat.zero-add, proofs.lemmas.Bool.false≢true, proofs.lemmas.Bool.le-leb, proofs.lemmas.Bool.leb-true, proofs.lemmas.List.FromFn.get_or-map-range_with_len}
use Rattle.rds_code.specs.Remainder.{rem}
use Rattle.rds_stream.specs.{Recording.window, Planes.Hold, Inside.Lanes.IsWindowAt, Examples.ZeroGroup.once}

-- bit r of the remainder at place 25 + k is bit k of plane r
abbrev pub planes : List ℕ
planes =
    0x7043C80F70611758 ∷ 0xE084A01EE13A2EB0 ∷ 0xC10A703DC38C5D61 ∷ 0xF256C874F64DAD9B ∷ 0x94EC88E69C364C6F
    ∷ 0x599B39C249398F87 ∷ 0xB3354384938B1F0F ∷ 0x1628AF0656432947 ∷ 0x5C104603DC2B45D6 ∷ 0xB8208C07B8568BAC
    ∷ []

-- the bits of the group, the first lowest
abbrev pub places : ℕ
places = 0x5A00001980000FC0000

-- bit k of the planes, that of plane 9 highest: at each of the 64 places the remainder of its window
abbrev pub column : ℕ → ℕ
column k = number_from_digits 2 (map (λ r. bit_at (slice_index planes (9 - r)) k) (range_with_len 0 10))

pub all_columns : map column (range_with_len 0 64)
    ≡ map (λ i. rem (window once.bits i)) (range_with_len 25 64)
unfolding rem window
all_columns = refl

-- two functions that agree below n
pub agree : (f g : ℕ → ℕ) (n : ℕ) → map f (range_with_len 0 n)
    ≡ map g (range_with_len 0 n) → (i : ℕ) → i < n → f i ≡ g i
agree f g n same i below =
    sym (get_or-map-range_with_len f 0 n i i 0 below (zero-add i)) ∙ ap (λ values. get_or values i 0) same
    ∙ get_or-map-range_with_len g 0 n i i 0 below (zero-add i)

-- ---- remainders

-- at the places 25, 26, 51, 77 and 88
pub held : Hold planes 0 0x0FC × Hold planes 1 0x1F8 × Hold planes 26 0x198 × Hold planes 52 0x168 × Hold planes 63 0x25E
held = (
  record { small = leb-true 0x0FD 1024 refl; bits = agree _ _ 10 refl },
  record { small = leb-true 0x1F9 1024 refl; bits = agree _ _ 10 refl },
  record { small = leb-true 0x199 1024 refl; bits = agree _ _ 10 refl },
  record { small = leb-true 0x169 1024 refl; bits = agree _ _ 10 refl },
  record { small = leb-true 0x25F 1024 refl; bits = agree _ _ 10 refl },
)

-- a place holds one remainder: not that of its neighbour, nor one of more than ten bits
pub not_the_next : Hold planes 0 0x1F8 → ⊥
not_the_next hold = false≢true (ap (λ bit. bit == 1) (hold.bits 8 (leb-true 9 10 refl)))

pub not_eleven_bits : Hold planes 0 0x4FC → ⊥
not_eleven_bits hold = false≢true (le-leb 0x4FD 1024 hold.small)

-- ---- windows

-- those that end at the places 25, 51 and 77
pub there : IsWindowAt places 0 0x00000FC × IsWindowAt places 26 0x0000198 × IsWindowAt places 52 0x0000168
there = (
  record { block = leb-true 0xFD 67108864 refl; bits = agree _ _ 26 refl },
  record { block = leb-true 0x199 67108864 refl; bits = agree _ _ 26 refl },
  record { block = leb-true 0x169 67108864 refl; bits = agree _ _ 26 refl },
)

-- its last place is its lowest bit
pub not_turned : IsWindowAt places 0 0x0FC0000 → ⊥
not_turned window = false≢true (ap (λ bit. bit == 1) (window.bits 2 (leb-true 3 26 refl)))
