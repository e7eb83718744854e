-- Symbols from bytes: the signs that bits are packed from, and the 27 symbols of a block.
use Rattle.std.specs.{Prelude.ℕ, Prelude.ℤ, Prelude.◌+◌, Prelude.List, Prelude.Option, Prelude.Some, Prelude.None, Prelude.length, Prelude.take, Prelude.drop, Prelude.nat_lt, Prelude.if◌then◌else◌, Prelude.slice_index, Int.cast_signed, Int.w8}
use Rattle.rds_soft.specs.{ReadAgain.symbols_of, Symbols.sign}

-- the sign of symbol i, a signed byte
abbrev pub sign_at : List ℕ → ℕ → ℕ
sign_at bytes i = sign (cast_signed w8 (slice_index bytes i))

-- the 27 symbols from a place on, if they are there
abbrev pub chunk_of : List ℕ → ℕ → Option (List ℤ)
chunk_of bytes first = if nat_lt (first + 26) (length (symbols_of bytes)) then Some (take 27 (drop first (symbols_of bytes))) else None
