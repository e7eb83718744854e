-- Worked examples: the remainders of the powers of x by the generator. Below x^10 a power is its own remainder.
use Rattle.std.specs.{Prelude.◌≡◌, Prelude.◌*◌, Prelude.◌^◌, Prelude.[], Prelude.◌∷◌, Prelude.map, Prelude.refl, List.range_with_len}
use Rattle.rds_code.specs.Remainder.{rem}

pub low_powers : map (λ t. rem (2 ^ t)) (range_with_len 0 10)
    ≡ 1 ∷ 2 ∷ 4 ∷ 8 ∷ 16 ∷ 32 ∷ 64 ∷ 128 ∷ 256 ∷ 512 ∷ []
unfolding rem
low_powers = refl

-- from x^10 to x^25
pub high_powers : map (λ t. rem (2 ^ t)) (range_with_len 10 16)
    ≡ 0x1B9 ∷ 0x372 ∷ 0x35D ∷ 0x303 ∷ 0x3BF ∷ 0x2C7 ∷ 0x037 ∷ 0x06E ∷ 0x0DC ∷ 0x1B8 ∷ 0x370 ∷ 0x359 ∷ 0x30B
    ∷ 0x3AF ∷ 0x2E7 ∷ 0x077 ∷ []
unfolding rem
high_powers = refl

-- x^26: the value of a one that has left the window at its highest place
pub power_26 : rem (2 * rem (2 ^ 25)) ≡ 0x0EE
unfolding rem
power_26 = refl
