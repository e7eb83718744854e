-- A list of four blocks, and the group that they are if they are read again.
use Rattle.rds_soft.proofs.Names.{common_steps, ◌≡◌, ℕ, List, [], ◌∷◌, ◌∙◌, Bool, Some, None, ap, sym, length, length-map, get_or, take, drop, take-map, drop-map, ◌+◌, ◌*◌, ◌≤◌, refl, arith, ℤ, lt-ltb, if◌then◌else◌, cast_signed, w8, chunk_of, symbols_of, Wanted, Either, Signal, Block, SoftBlock, block_again, group_again, group_of, symbols_heard, wanted_beside, was_read}

pub list_of_four : (xs : List Block) (a b c d : Block) → length xs ≡ 4
    → xs ≡ get_or xs 0 a ∷ get_or xs 1 b ∷ get_or xs 2 c ∷ get_or xs 3 d ∷ []
list_of_four xs a b c d long = grind (arith, common_steps)

-- a group of four blocks, each after as many others
pub group_is : (b : Signal) (s : List ℤ) (margin place : ℕ) (blocks : List Block) (one two three four : Block) (first second third fourth : SoftBlock)
    (after_one after_two after_three : ℕ) (wanted : Wanted)
    → blocks ≡ one ∷ two ∷ three ∷ four ∷ []
    → after_one ≡ 0 + was_read one → after_two ≡ 0 + was_read one + was_read two → after_three ≡ 0 + was_read one + was_read two + was_read three
    → first ≡ block_again (symbols_heard b s (place + 26 * 0)) 1 Either margin one
    → second ≡ block_again (symbols_heard b s (place + 26 * after_one)) 2 Either margin two
    → wanted ≡ wanted_beside second
    → third ≡ block_again (symbols_heard b s (place + 26 * after_two)) 3 wanted margin three
    → fourth ≡ block_again (symbols_heard b s (place + 26 * after_three)) 4 Either margin four
    → group_of place (first ∷ second ∷ third ∷ fourth ∷ []) ≡ group_again b s margin place blocks
group_is b s margin place blocks one two three four first second third fourth after_one after_two after_three wanted are n m k h i w j l =
    rw (are, l, j, w, i, h, n, m, k) refl

-- 27 bytes from a place on, as symbols
pub chunk_there : (raw chunk : List ℕ) (first : ℕ) → first + 27 ≤ length raw → chunk ≡ take 27 (drop first raw) → Some (symbols_of chunk) ≡ chunk_of raw first
chunk_there raw chunk first room is =
    let part : List ℤ = take 27 (drop first (symbols_of raw)) in
    let same : symbols_of chunk ≡ part =
    ap symbols_of is ∙ sym (ap (take 27) (drop-map (cast_signed w8) first raw) ∙ take-map (cast_signed w8) 27 (drop first raw)) in
    ap (λ (xs : List ℤ). Some xs) same
    ∙ sym (ap (λ (b : Bool). (if b then Some part else None)) (lt-ltb (first + 26) (length (symbols_of raw)) (omega (arith, room, length-map raw (cast_signed w8)))))
