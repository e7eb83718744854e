-- Symbols that are decoded as they come: of all symbols those that count say the same.
use Rattle.rds_tool.proofs.Names.{common_steps, arith, ◌≡◌, ◌<◌, ◌≤◌, ◌+◌, ◌-◌, ◌^◌, ◌++◌, ◌∷◌, ◌∙◌, Bool, Err, List, [], None, Ok, Option, Result, Some, ap, cases_lt, drop, false, flat_map, if◌then◌else◌, inl, inr, le-ltb, lt-ltb, length, length-take, map, min, range_with_len, refl, report_items, sym, subst, take, take_all, true, ℕ, and_then, claimed_of, recording_of_symbols, hard_bit, symbols_of, soft_report_text, soft_row, soft_text, soft_totals_text, AreGaps, RuleNumbers, Signal, SoftItem, SoftTerms, length_of, BadGaps, BitsPastBytes, TooLong, RdsError}
use Rattle.rds_tool.proofs.{GapLists.are_gaps, GapLists.pass_as_gaps}
use Rattle.rds_tool.specs.{Inside.HeldSymbols.HeldTerms, Inside.HeldSymbols.IsHeld, Inside.HeldSymbols.most_heard, Inside.HeldSymbols.text_of_held}
use Rattle.rds_soft.specs.ReadAgain.{item_again}
use Rattle.rds_soft.specs.{ReadAgain.group_again, ReadAgain.first_bit, ReadAgain.symbols_heard, SoftStream.SoftHeard, SoftStream.complete, SoftStream.group_item, SoftStream.report_of, SoftStream.signal_of, SoftTotals.soft_totals_of, Symbols.hard_bits, Symbols.sign, declared.soft_item.SoftGroup.SoftGroup, declared.soft_item.SoftItem.TheVariants.Group as InSoft, declared.soft_totals.SoftTotals.SoftTotals}
use Rattle.rds_soft.proofs.PartLemmas.{length-bits, length-symbols}
use Rattle.rds_stream.specs.Recording.{touched}
use Rattle.rds_sync.specs.declared.item.{Block.Block, Item.Item}
use Rattle.rds_sync.specs.declared.item.Item.TheVariants.{Acquired, Group, LostLock}
use Rattle.std.proofs.lemmas.List.{drop-take, get_or-take, take-map, take-take}
use Rattle.std.proofs.lemmas.List.FromFn.{get_or-map-range_with_len, length-map-range_with_len}
use Rattle.std.proofs.lemmas.List.{Elements.All-weaker, ext_get_or}
use Rattle.std.specs.{Int.cast_signed, Int.w8, Option.unwrap_or, Prelude.bit_xor, Prelude.nat_lt, Prelude.not, Prelude.pos, Prelude.slice_index_or, Prelude.ℤ, Prelude.◌&&◌}
use mathlib.Core.Path.{ap₂}

map-alike : {X Y : Type 0} (f g : X → Y) → ((x : X) → f x ≡ g x) → (xs : List X) → map f xs ≡ map g xs
map-alike f g alike [] = refl
map-alike f g alike (x ∷ xs) = ap₂ (λ y ys. y ∷ ys) (alike x) (map-alike f g alike xs)

-- the first n + 1 symbols have the first n bits
module _ (held : List ℕ) (n : ℕ) (within : n ≤ length held - 1) where
  abbrev heard : List ℕ
  heard = take (n + 1) held

  abbrev S : List ℕ → List ℤ
  S = symbols_of

  pub heard-long : length heard - 1 ≡ n
  heard-long = omega (arith, within, length-take (n + 1) held)

  front : S heard ≡ take (n + 1) (S held)
  front = sym (take-map (cast_signed w8) (n + 1) held)

  same-symbol : (i : ℕ) → i < n + 1 → slice_index_or (S held) i (pos 0) ≡ slice_index_or (S heard) i (pos 0)
  same-symbol i inside = grind (arith, common_steps, front)

  same-bit : (i : ℕ) → i < n → hard_bit (S held) i ≡ hard_bit (S heard) i
  same-bit i inside = ap₂ (λ a b. bit_xor (sign a) (sign b)) (same-symbol i (omega (arith, inside))) (same-symbol (i + 1) (omega (arith, inside)))

  same-bits : map (hard_bit (S held)) (range_with_len 0 n) ≡ hard_bits (S heard)
  same-bits =
      let one : length (map (hard_bit (S held)) (range_with_len 0 n)) ≡ n = length-map-range_with_len (hard_bit (S held)) 0 n in
      let all : length (S heard) - 1 ≡ n = ap (λ (k : ℕ). k - 1) (length-symbols heard) ∙ heard-long in
      let other : length (hard_bits (S heard)) ≡ n = length-bits (S heard) ∙ all in
      ext_get_or 0 (map (hard_bit (S held)) (range_with_len 0 n)) (hard_bits (S heard)) (one ∙ sym other) (λ i inside.
      get_or-map-range_with_len (hard_bit (S held)) 0 n i i 0 (omega (arith, inside, one)) (omega arith)
      ∙ same-bit i (omega (arith, inside, one))
      ∙ sym (get_or-map-range_with_len (hard_bit (S heard)) 0 (length (S heard) - 1) i i 0 (omega (arith, inside, one, all)) (omega arith)))

  -- of a recording of n bits the same symbols are heard
  module _ (b : Signal) (bits : length_of b ≡ n) where
    same-heard : (first : ℕ) → symbols_heard b (S held) first ≡ symbols_heard b (S heard) first
    same-heard first = elim (cases_lt (first + 25) n) [
      | inl early ↦
          let there : nat_lt (first + 26) (length (S held)) ≡ nat_lt (first + 26) (length (S heard)) =
          lt-ltb (first + 26) (length (S held)) (omega (arith, early, within, length-symbols held))
          ∙ sym (lt-ltb (first + 26) (length (S heard)) (omega (arith, early, heard-long, length-symbols heard))) in
          let rest : ℕ = n + 1 - first in
          let sum : first + rest ≡ n + 1 = omega (arith, early) in
          let same : take 27 (drop first (S heard)) ≡ take 27 (drop first (S held)) =
          ap (λ xs. take 27 (drop first xs)) (front ∙ ap (λ (k : ℕ). take k (S held)) (sym sum))
          ∙ ap (take 27) (drop-take first rest (S held))
          ∙ take-take 27 rest (drop first (S held)) (omega (arith, early)) in
          ap₂ (λ (t : Bool) (xs : List ℤ). if nat_lt (first + 25) (length_of b) && not (touched b (first + 25)) && t then Some xs else None) there (sym same)
      | inr late ↦
          let none : nat_lt (first + 25) (length_of b) ≡ false = le-ltb (first + 25) (length_of b) (omega (arith, late, bits)) in
          rw none refl
    ]

    same-group : (margin place : ℕ) (blocks : List Block) → group_again b (S held) margin place blocks ≡ group_again b (S heard) margin place blocks
    same-group margin place blocks =
        rw (same-heard (first_bit place blocks 1), same-heard (first_bit place blocks 2), same-heard (first_bit place blocks 3), same-heard (first_bit place blocks 4)) refl

    same-item : (margin : ℕ) (item : Item) → item_again b (S held) margin item ≡ item_again b (S heard) margin item
    unfolding item_again
    same-item margin (Acquired place number) = refl
    same-item margin (LostLock place) = refl
    same-item margin (Group g) = ap InSoft (same-group margin g.place g.blocks)

    same-items : (margin : ℕ) (items : List Item) → map (item_again b (S held) margin) items ≡ map (item_again b (S heard) margin) items
    same-items margin items = map-alike (item_again b (S held) margin) (item_again b (S heard) margin) (same-item margin) items

-- ---- the text

-- once the claim was looked at
pub claim-is : (bits : Option ℕ) (count : ℕ) (held : List ℕ) → count ≡ min (length held) (2 ^ 64 - 1) → unwrap_or bits (count - 1) ≤ 2 ^ 36 → claimed_of bits held ≡ unwrap_or bits (count - 1)
claim-is bits count held counts short = grind (arith, common_steps)

module _ (terms : SoftTerms) (bits : Option ℕ) (has_rows : Bool) (held : List ℕ) (short : claimed_of bits held ≤ 2 ^ 36) (within : claimed_of bits held ≤ length held - 1) where
  abbrev n : ℕ
  n = claimed_of bits held

  abbrev of : HeldTerms
  of = record { input = record { hex = false; bits = bits; gaps = terms.gaps }; rules = terms.rules; margin = terms.margin; has_rows = has_rows }

  pub those-that-count : take (most_heard bits) held ≡ take (n + 1) held
  those-that-count = grind (arith, common_steps)

  pub bad-gaps : (AreGaps n terms.gaps → ⊥) → text_of_held of held ≡ Err BadGaps
  bad-gaps none = grind (arith, common_steps, are_gaps, le-ltb, short, within)

  abbrev counted : List ℕ
  counted = take (n + 1) held

  abbrev report : List SoftItem
  report = report_of terms counted

  abbrev whole : Signal
  whole = record { bits = map (hard_bit (symbols_of held)) (range_with_len 0 n); gaps = terms.gaps }

  whole-is : whole ≡ signal_of terms counted
  whole-is = ap (λ (bs : List ℕ). record { bits = bs; gaps = terms.gaps }) (same-bits held n within)

  report-is : map (item_again whole (symbols_of held) terms.margin) (report_items whole terms.rules) ≡ report
  report-is =
      same-items held n within whole (length-map-range_with_len (hard_bit (symbols_of held)) 0 n) terms.margin (report_items whole terms.rules)
      ∙ ap (λ (b : Signal). map (item_again b (symbols_of counted) terms.margin) (report_items b terms.rules)) whole-is

  pub held-text : AreGaps n terms.gaps → text_of_held of held ≡ Ok (soft_report_text has_rows report)
  held-text are =
      rw (le-ltb (2 ^ 36) n short, le-ltb (length held - 1) n within, pass_as_gaps terms.gaps n are)
      (ap (λ (items : List SoftItem). Ok (soft_report_text has_rows items)) report-is)

-- gaps that no recording may have
wider : (n : ℕ) (gaps : List (ℕ × ℕ)) → n ≤ 2 ^ 36 → AreGaps n gaps → AreGaps (2 ^ 36) gaps
wider n gaps short are = record {
  each = All-weaker (λ (gap : ℕ × ℕ). (gap.0 < gap.1) × (gap.1 ≤ n)) (λ (gap : ℕ × ℕ). (gap.0 < gap.1) × (gap.1 ≤ 2 ^ 36))
      (λ gap lies. (lies.0, omega (arith, lies.1, short))) gaps are.each;
  apart = are.apart;
}

pub never-gaps : (terms : SoftTerms) (bits : Option ℕ) (has_rows : Bool) (held : List ℕ) (count : ℕ) → count ≡ min (length held) (2 ^ 64 - 1)
    → unwrap_or bits (count - 1) ≤ 2 ^ 36 → unwrap_or bits (count - 1) ≤ count - 1 → (AreGaps (2 ^ 36) terms.gaps → ⊥)
    → and_then (recording_of_symbols (record { hex = false; bits = bits; gaps = terms.gaps }) held) (λ recording. Ok (soft_text has_rows terms.rules terms.margin held recording)) ≡ Err BadGaps
never-gaps terms bits has_rows held count counts few there none =
    let is = claim-is bits count held counts few in
    let short : claimed_of bits held ≤ 2 ^ 36 = omega (arith, is, few) in
    bad-gaps terms bits has_rows held short (omega (arith, is, there, counts)) (λ are. none (wider (claimed_of bits held) terms.gaps short are))

-- ---- symbols that were taken

module _ (stream : SoftHeard) (bits : Option ℕ) (has_rows : Bool) (items : List SoftItem) (count : ℕ) (held : List ℕ) (is : IsHeld stream bits has_rows items count held) where
  module _ (few : unwrap_or bits (count - 1) ≤ 2 ^ 36) (there : unwrap_or bits (count - 1) ≤ count - 1) where
    claim : claimed_of bits held ≡ unwrap_or bits (count - 1)
    claim = claim-is bits count held is.counts few

    pub short : claimed_of bits held ≤ 2 ^ 36
    short = omega (arith, claim, few)

    pub within : claimed_of bits held ≤ length held - 1
    within = omega (arith, claim, there, is.counts)

    heard-is : stream.symbols ≡ take (claimed_of bits held + 1) held
    heard-is = is.heard ∙ those-that-count stream.terms bits has_rows held short within

    long : length stream.symbols - 1 ≡ claimed_of bits held
    long = ap (λ (xs : List ℕ). length xs - 1) heard-is ∙ heard-long held (claimed_of bits held) within

    abbrev text : Result (List ℕ) RdsError
    text = text_of_held (of stream.terms bits has_rows held short within) held

    pub refused-gaps : (AreGaps (length stream.symbols - 1) stream.terms.gaps → ⊥) → text ≡ Err BadGaps
    refused-gaps none = bad-gaps stream.terms bits has_rows held short within (λ are. none (subst (λ (m : ℕ). AreGaps m stream.terms.gaps) (sym long) are))

    module _ (are : AreGaps (length stream.symbols - 1) stream.terms.gaps) (totals : SoftTotals) (sum : totals ≡ soft_totals_of (report_of stream.terms stream.symbols)) where
      said : (h : Bool) → has_rows ≡ h → text ≡ Ok ((if h then flat_map soft_row (report_of stream.terms stream.symbols) else []) ++ soft_totals_text totals)
      said h asked =
          held-text stream.terms bits has_rows held short within (subst (λ (m : ℕ). AreGaps m stream.terms.gaps) long are)
          ∙ ap₂ (λ (h : Bool) (xs : List ℕ). Ok (soft_report_text h (report_of stream.terms xs))) asked (sym heard-is)
          ∙ ap (λ (t : SoftTotals). Ok ((if h then flat_map soft_row (report_of stream.terms stream.symbols) else []) ++ soft_totals_text t)) (sym sum)

      same-rows : (group : Option SoftGroup) → complete stream.terms stream.symbols ++ group_item group ≡ report_of stream.terms stream.symbols
          → (h : Bool) → has_rows ≡ h → (if h then flat_map soft_row (report_of stream.terms stream.symbols) else []) ≡ (if h then flat_map soft_row (items ++ group_item group) else [])
      same-rows group all true asked =
          ap (λ (xs : List SoftItem). flat_map soft_row xs) (sym (ap (λ (xs : List SoftItem). xs ++ group_item group) (is.listed asked) ∙ all))
      same-rows group all false asked = refl

      pub text-made : (group : Option SoftGroup) → complete stream.terms stream.symbols ++ group_item group ≡ report_of stream.terms stream.symbols
          → text ≡ Ok ((if has_rows then flat_map soft_row (items ++ group_item group) else []) ++ soft_totals_text totals)
      text-made group whole = said has_rows refl ∙ ap (λ (rows : List ℕ). Ok (rows ++ soft_totals_text totals)) (same-rows group whole has_rows refl)
