-- A recording that is counted while its bytes come.
use Rattle.rds_tool.proofs.Names.{common_steps, ◌≡◌, ◌<◌, ◌≤◌, ◌+◌, ◌-◌, ◌*◌, ◌^◌, ◌++◌, ◌∷◌, ◌∙◌, ℕ, Bool, Err, List, [], Ok, Option, Result, ap, arith, drop, false, if◌then◌else◌, inl, inr, length, length-append, min, refl, slice_index, sym, subst, take, true, is_some, take-append-add, cases_lt, le-ltb, append-nil, get_or_append_left, get_or-append_right, length-take, take-append-drop, take-append-le, take_all, take_more, HasHeard, LiveOf, AreGaps, bits_of, claimed, decoded, first_bits, IsCounter, IsTextOf, claimed_by, whole, RdsError, BadGaps, HexText}
use Rattle.rds_tool.proofs.{Followed.front_bits, GapLists.are_gaps, GapLists.pass_as_gaps, HexDigits.even_text, HexDigits.odd_text, HexDigits.strange_text}

-- ---- its bytes

-- as many of the bytes as there are
take_few : (n k : ℕ) (xs : List ℕ) → k ≡ min n (length xs) → take n xs ≡ take k xs
take_few n k xs is = grind (arith, common_steps, take_all)

-- the first bytes, once more came
pub take_on : (n k : ℕ) (xs ys : List ℕ) → k ≡ min (n - length xs) (length ys) → take n (xs ++ ys) ≡ take n xs ++ take k ys
take_on n k xs ys is = elim (cases_lt (length xs) n) [
  | inl more ↦
      let d : ℕ = n - length xs in
      let sum : n ≡ length xs + d = omega (arith, more) in
      ap (λ m. take m (xs ++ ys)) sum ∙ take-append-add xs ys d ∙ ap (λ zs. zs ++ take d ys) (sym (take_all n xs (omega (arith, more))))
      ∙ ap (λ zs. take n xs ++ zs) (take_few d k ys is)
  | inr few ↦
      let none : 0 ≡ k = omega (arith, is, few) in
      take-append-le n xs ys few ∙ sym (append-nil (take n xs)) ∙ ap (λ m. take n xs ++ take m ys) none
]

pub few_whole : (bits : Option ℕ) → whole bits ≤ 2 ^ 33
few_whole bits = grind (arith, common_steps)

module _ (bits : Option ℕ) (live : LiveOf) (count last : ℕ) (xs : List ℕ) (is : IsCounter live bits count last xs) where
  place_is : live.place ≡ 8 * min (whole bits) (length xs)
  place_is = let at = ap (λ (l : LiveOf). l.place) is.heard in omega (arith, at, length-take (whole bits) xs)

  -- more bytes came
  pub counted_on : (live' : LiveOf) (count' last' k : ℕ) (ys : List ℕ) → k ≡ min (whole bits - count) (length ys) → HasHeard live' (take (whole bits) xs ++ take k ys)
      → count' ≡ min (count + length ys) (2 ^ 64 - 1) → (whole bits < count → last' ≡ last)
      → (count ≤ whole bits → whole bits - count < length ys → last' ≡ slice_index ys (whole bits - count)) → IsCounter live' bits count' last' (xs ++ ys)
  counted_on live' count' last' k ys few heard counts kept new = record {
    heard = subst (λ zs. HasHeard live' zs) (sym (take_on (whole bits) k xs ys (omega (arith, few, is.counts, few_whole bits)))) heard;
    counts = omega (arith, counts, is.counts, length-append xs ys);
    ends = λ more. elim (cases_lt (whole bits) (length xs)) [
      | inl early ↦ kept (omega (arith, early, is.counts, few_whole bits)) ∙ is.ends early ∙ sym (get_or_append_left xs ys 0 (whole bits) early)
      | inr late ↦
          let same : count ≡ length xs = omega (arith, late, is.counts, few_whole bits) in
          new (omega (arith, same, late)) (omega (arith, same, late, more, length-append xs ys)) ∙ sym (get_or-append_right xs ys count (whole bits) 0 (sym same) (omega (arith, same, late)))
    ];
  }

  -- ---- its end

  module _ (short : claimed_by bits count ≤ 2 ^ 36) where
    abbrev n : ℕ
    n = claimed_by bits count

    claim_is : claimed bits xs ≡ n
    claim_is = grind (arith, common_steps)

    module _ (enough : n ≤ 8 * count) where
      held : n ≤ 8 * length xs
      held = omega (arith, enough, is.counts)

      pub near_end : (live.place ≤ n) × (n < live.place + 8)
      near_end = grind (arith, common_steps, place_is)

      pub bad_gaps : (gaps : List (ℕ × ℕ)) → (AreGaps n gaps → ⊥) → first_bits (claimed bits xs) gaps xs ≡ Err BadGaps
      bad_gaps gaps none = grind (arith, common_steps, are_gaps, claim_is, le-ltb, held)

      pub recorded : (gaps : List (ℕ × ℕ)) → AreGaps n gaps → first_bits (claimed bits xs) gaps xs ≡ Ok (record { bits = bits_of xs n; gaps = gaps })
      recorded gaps are = rw (claim_is, le-ltb (2 ^ 36) n short, le-ltb (8 * length xs) n held, pass_as_gaps gaps n are) refl

      -- the bits of the bytes that were heard, and of the one in which they end
      pub ends_alike : bits_of (take (whole bits) xs ++ last ∷ []) n ≡ bits_of xs n
      ends_alike =
          let w : ℕ = whole bits in
          let front : List ℕ = take w xs in
          elim (cases_lt (8 * length front) n) [
            | inl more ↦
                let there : w < length xs = omega (arith, more, held, near_end.1, place_is, length-take w xs) in
                let one : front ++ last ∷ [] ≡ take (w + 1) xs = ap (λ byte. front ++ byte ∷ []) (is.ends there) ∙ sym (take_more xs w 0 there) in
                ap (λ ys. bits_of ys n) one ∙ begins (w + 1) (omega (arith, length-take (w + 1) xs, length-take w xs, near_end.1, place_is, there))
            | inr few ↦ front_bits front (last ∷ []) 0 n (omega (arith, few)) ∙ begins w few
          ] where
            begins : (k : ℕ) → n ≤ 8 * length (take k xs) → bits_of (take k xs) n ≡ bits_of xs n
            begins k within = sym (front_bits (take k xs) (drop k xs) 0 n (omega (arith, within))) ∙ ap (λ ys. bits_of ys n) (take-append-drop k xs)

-- ---- its text

module _ (half : Option ℕ) (text bytes : List ℕ) where
  abbrev decoded_as : Bool → Result (List ℕ) RdsError
  decoded_as hex = if hex then decoded text else Ok text

  pub refused_strange : (hex : Bool) → IsTextOf hex half true text bytes → decoded_as hex ≡ Err HexText
  refused_strange hex is = grind (arith, common_steps, strange_text)

  pub refused_half : (hex : Bool) → is_some half ≡ true → IsTextOf hex half false text bytes → decoded_as hex ≡ Err HexText
  refused_half true some is = odd_text text bytes half some is.1
  refused_half false some is = let bad : false ≡ true = sym (ap is_some is.1) ∙ some in cc bad

  pub decoded_whole : (hex : Bool) → is_some half ≡ false → IsTextOf hex half false text bytes → decoded_as hex ≡ Ok bytes
  decoded_whole true none is = even_text text bytes half none is.1
  decoded_whole false none is = ap (λ t. Ok t) (sym is.0)
