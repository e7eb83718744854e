-- The laws of symbols read as blocks, and of items read again.
use Rattle.rds_soft.proofs.Names.{common_steps, ◌≡◌, ℕ, ◌+◌, ◌-◌, ◌<◌, ◌≤◌, Bool, true, false, List, length, get_or, take, drop, refl, sym, ap, ◌∙◌, subst, arith, length-take, length-drop, Some, None, ℤ, pos, nat_lt, not, ◌&&◌, if◌then◌else◌, number_from_digits, lt-ltb, ext_get_or, get_or-take, get_or-drop, Offset, Wanted, IsReading, reading, ReadsByRule, window, heard, touched, length_of, Read, hard_bit, hard_bits, hard_window, confidences, block_again, reading_heard, soft_reading, HasOneSoftReading, SymbolsHaveWindows, ReadsFromSymbols}
use Rattle.rds_soft.{specs.declared.soft_reading.SoftReading.TheVariants.Valid, specs.declared.soft_reading.SoftReading.TheVariants.Corrected, specs.declared.soft_reading.SoftReading.TheVariants.Lost, specs.declared.soft_item.SoftBlock.TheVariants.Read as SoftRead, proofs.NearestLaws.has_one_nearest, proofs.SymbolLemmas.bit_of, proofs.SymbolLemmas.bit_count}
use mathlib.Core.Path.{ap₂}
use Rattle.rds_code.specs.declared.reading.Reading.{Reading}
use Rattle.rds_stream.specs.Recording.{reading_heard as hard_heard}

-- ---- one reading

some_is : (o p : Offset) → Some o ≡ Some p → o ≡ p
some_is o p same = cc

pub has_one_soft_reading : HasOneSoftReading
has_one_soft_reading symbols x wanted margin (Valid o i) (Valid p j) some one other = grind (arith, common_steps, some_is)
has_one_soft_reading symbols x wanted margin (Valid o i) (Corrected p j g) some one other = absurd (other.0 o one.0)
has_one_soft_reading symbols x wanted margin (Valid o i) Lost some one other = absurd (other.0 o one.0)
has_one_soft_reading symbols x wanted margin (Corrected o i f) (Valid p j) some one other = absurd (one.0 p other.0)
has_one_soft_reading symbols x wanted margin (Corrected o i f) (Corrected p j g) some one other =
    let same = has_one_nearest (hard_window symbols) x wanted (confidences symbols) margin o p f g some one.1 other.1 in
    grind (arith, common_steps, same.0, same.1, one.2, other.2)
has_one_soft_reading symbols x wanted margin (Corrected o i f) Lost some one other = absurd (other.1 o f one.1)
has_one_soft_reading symbols x wanted margin Lost (Valid p j) some one other = absurd (one.0 p other.0)
has_one_soft_reading symbols x wanted margin Lost (Corrected p j g) some one other = absurd (one.1 p g other.1)
has_one_soft_reading symbols x wanted margin Lost Lost some one other = refl

-- ---- windows

-- the 27 symbols from this place on
module _ (symbols : List ℤ) (first : ℕ) (within : first + 26 < length symbols) where
  part : List ℤ
  part = take 27 (drop first symbols)

  part_long : length part ≡ 27
  unfolding part
  part_long = omega (arith, length-take 27 (drop first symbols), length-drop first symbols)

  symbol_in : (i : ℕ) → i < 27 → get_or part i (pos 0) ≡ get_or symbols (first + i) (pos 0)
  unfolding part
  symbol_in i inside = get_or-take 27 (drop first symbols) i (pos 0) inside ∙ get_or-drop first symbols i (pos 0)

  bit_in : (i : ℕ) → i < 26 → hard_bit part i ≡ hard_bit symbols (first + i)
  bit_in i inside = grind (arith, common_steps, symbol_in, part)

  bits_in : take 26 (drop first (hard_bits symbols)) ≡ hard_bits part
  bits_in =
      let left : length (take 26 (drop first (hard_bits symbols))) ≡ 26 =
      omega (arith, length-take 26 (drop first (hard_bits symbols)), length-drop first (hard_bits symbols), bit_count symbols) in
      let right : length (hard_bits part) ≡ 26 = omega (arith, bit_count part, part_long) in
      ext_get_or 0 (take 26 (drop first (hard_bits symbols))) (hard_bits part) (left ∙ sym right) (λ i inside.
      let low : i < 26 = omega (arith, left, inside) in
      get_or-take 26 (drop first (hard_bits symbols)) i 0 low ∙ get_or-drop first (hard_bits symbols) i 0
      ∙ bit_of symbols (first + i) (omega arith) ∙ sym (bit_in i low) ∙ sym (bit_of part i (omega (arith, part_long, low))))

pub symbols_have_windows : SymbolsHaveWindows
unfolding window part
symbols_have_windows symbols first within =
    let from : first + 25 - 25 ≡ first = omega arith in
    let count : first + 25 + 1 - (first + 25 - 25) ≡ 26 = omega arith in
    ap₂ (λ (n a : ℕ). number_from_digits 2 (take n (drop a (hard_bits symbols)))) count from
    ∙ ap (number_from_digits 2) (bits_in symbols first within)

-- ---- blocks

-- a block as hard bits read it, and the symbols of the same window
from_reading : (symbols : List ℤ) (x : ℕ) (hard wanted : Wanted) (limit margin : ℕ) (r : Reading) → IsReading (hard_window symbols) x hard limit r
    → block_again (Some symbols) x wanted margin (Read r) ≡ SoftRead (soft_reading symbols x wanted margin)
unfolding soft_reading
from_reading symbols x hard wanted limit margin r h = grind (arith, common_steps)

-- by whether the window touches a gap
by_touch : ReadsByRule → (t : Bool) (w x : ℕ) (hard wanted : Wanted) (limit margin : ℕ) (symbols : List ℤ) → 1 ≤ x → x ≤ 4 → limit ≤ 5
    → hard_window symbols ≡ w
    → block_again (if true && not t && true then Some symbols else None) x wanted margin
    (Read (hard_heard (elim t [ true ↦ None | false ↦ Some w ]) x hard limit))
    ≡ SoftRead (reading_heard (if true && not t && true then Some symbols else None) x wanted margin)
by_touch law true w x hard wanted limit margin symbols low high few same = refl
by_touch law false w x hard wanted limit margin symbols low high few same =
    from_reading symbols x hard wanted limit margin (reading w x hard limit)
    (subst (λ (v : ℕ). IsReading v x hard limit (reading w x hard limit)) (sym same) ((law w x hard limit (reading w x hard limit) low high few).1 refl))

pub reads_from_symbols : ReadsByRule → ReadsFromSymbols
unfolding heard
reads_from_symbols law b symbols first x hard wanted limit margin low high few bits within =
    let ends : nat_lt (first + 25) (length_of b) ≡ true =
    lt-ltb (first + 25) (length_of b) (omega (arith, within, ap length bits, bit_count symbols)) in
    let there : nat_lt (first + 26) (length symbols) ≡ true = lt-ltb (first + 26) (length symbols) within in
    let part : List ℤ = take 27 (drop first symbols) in
    let same : hard_window part ≡ window b.bits (first + 25) =
    sym (ap (λ (bs : List ℕ). window bs (first + 25)) bits ∙ symbols_have_windows symbols first within) in
    rw (ends, there) (by_touch law (touched b (first + 25)) (window b.bits (first + 25)) x hard wanted limit margin part low high few same)
