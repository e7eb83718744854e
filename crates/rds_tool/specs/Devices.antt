-- The bytes that a read gave, and how failures are counted: this project's rule. `Source::read` and the ends
-- over std cite it.
use Rattle.std.specs.Prelude.{ℕ, List, [], Bool, false, None, Option, Result, Some, Ok, Err, cond, length, nat_eq, nat_lt, take}

-- a read fails if it answers an error
abbrev pub failures_of_read : {E : Type 0} → Result ℕ E → ℕ
failures_of_read (Ok count) = 0
failures_of_read (Err e) = 1

-- the bytes that a read gave: those at the front of the buffer, and none if it failed
abbrev pub moved : {E : Type 0} → Result ℕ E → List ℕ → List ℕ
moved (Ok count) buf = take count buf
moved (Err e) buf = []

-- the bytes that are known, or none
abbrev pub known_or_none : Option (List ℕ) → List ℕ
known_or_none None = []
known_or_none (Some bytes) = bytes

-- a read answers the end of the input: no byte, though there was room
abbrev pub answers_end : {E : Type 0} → Result ℕ E → List ℕ → Bool
answers_end (Ok count) buf = cond (nat_eq count 0) (nat_lt 0 (length buf)) false
answers_end (Err e) buf = false
