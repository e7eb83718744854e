-- A stream of symbols: its bytes, the symbols that are kept, and its items read again.
use Rattle.rds_abi.proofs.Shared.{common_steps, ◌≡◌, ◌+◌, ◌-◌, ◌*◌, ◌/◌, ◌^◌, ◌<◌, ◌≤◌, ◌++◌, ◌⊎◌, ◌∙◌, ℕ, List, Bool, Option, Some, None, ap, ap₂, append_assoc, arith, drop, get_or, inl, inr, length, sym, take, cases_lt, drop-drop, get_or-take, length-append, length-take, AreGaps, Signal, length_of, gaps_within, part-touched, list_any, number_from_digits, lt-ltb, drop-append-le, ext_get_or, get_or-append_right, get_or_append_left, length-drop, length-replicate, take-append-le, drop-append-add, take-append-add, take-append_seam, get_or-map-range_with_len, hard_bit, sign, byte_of, bytes_of, symbols_kept, AreSymbolsOf, ℤ, pos, bit_xor, replicate, nat_lt, not, ◌&&◌, if◌then◌else◌}
use Rattle.rds_abi.proofs.SoftSymbols.{byte_count_of, same-tables}
use Rattle.rds_stream.specs.Recording.{is_touched_by, touched}

-- ---- bytes

-- bytes of symbols that are alike there
same-byte : (xs ys : List ℤ) (a c : ℕ) → ((j : ℕ) → j < 9 → get_or xs (a + j) (pos 0) ≡ get_or ys (c + j) (pos 0)) → byte_of xs a ≡ byte_of ys c
same-byte xs ys a c same =
    ap (number_from_digits 2) (same-tables (hard_bit xs) (hard_bit ys) a c 8 (λ j within.
    let left : a + j + 1 ≡ a + (j + 1) = omega arith in
    let right : c + j + 1 ≡ c + (j + 1) = omega arith in
    ap₂ (λ (r q : ℤ). bit_xor (sign r) (sign q)) (same j (omega (arith, within)))
    (ap (λ (k : ℕ). get_or xs k (pos 0)) left ∙ same (j + 1) (omega (arith, within)) ∙ sym (ap (λ (k : ℕ). get_or ys k (pos 0)) right))))

module _ (before piece : List ℤ) (m : ℕ) (whole : length before ≡ 8 * m) (some : 0 < length piece) where
  abbrev first : List ℤ
  first = before ++ take 1 piece

  -- the bytes of all are those before the piece, which its first symbol ends, and those of the piece
  pub bytes-join : bytes_of (before ++ piece) ≡ bytes_of (before ++ take 1 piece) ++ bytes_of piece
  bytes-join =
      ext_get_or 0 (bytes_of (before ++ piece)) (bytes_of first ++ bytes_of piece) long (λ k inside. at k inside (cases_lt k m)) where
        firsts : length first ≡ 8 * m + 1
        firsts = omega (arith, length-append before (take 1 piece), length-take 1 piece, whole, some)

        count : length (bytes_of first) ≡ m
        count = omega (arith, byte_count_of first, firsts)

        long : length (bytes_of (before ++ piece)) ≡ length (bytes_of first ++ bytes_of piece)
        long = omega (
          arith,
          byte_count_of (before ++ piece),
          length-append before piece,
          length-append (bytes_of first) (bytes_of piece),
          count,
          byte_count_of piece,
          whole,
          some,
        )

        beginning : first ≡ take (8 * m + 1) (before ++ piece)
        beginning = sym (ap (λ (n : ℕ). take (n + 1) (before ++ piece)) (sym whole) ∙ take-append-add before piece 1)

        early_symbol : (k : ℕ) → k < m → (j : ℕ) → j < 9 → get_or (before ++ piece) (8 * k + j) (pos 0) ≡ get_or first (8 * k + j) (pos 0)
        early_symbol k early j few =
            sym (ap (λ (xs : List ℤ). get_or xs (8 * k + j) (pos 0)) beginning
            ∙ get_or-take (8 * m + 1) (before ++ piece) (8 * k + j) (pos 0) (omega (arith, early, few)))

        late_symbol : (k : ℕ) → m ≤ k → (j : ℕ) → j < 9 → get_or (before ++ piece) (8 * k + j) (pos 0) ≡ get_or piece (8 * (k - m) + j) (pos 0)
        late_symbol k late j few =
            let there : 8 * k + j - 8 * m ≡ 8 * (k - m) + j = omega (arith, late) in
            get_or-append_right before piece (8 * m) (8 * k + j) (pos 0) whole (omega (arith, late))
            ∙ ap (λ (i : ℕ). get_or piece i (pos 0)) there

        byte_at : (xs : List ℤ) (k : ℕ) → k < (length xs - 1) / 8 → get_or (bytes_of xs) k 0 ≡ byte_of xs (8 * k)
        byte_at xs k inside = get_or-map-range_with_len (λ (i : ℕ). byte_of xs (8 * i)) 0 ((length xs - 1) / 8) k k 0 inside (omega arith)

        at : (k : ℕ) → k < length (bytes_of (before ++ piece)) → (k < m) ⊎ (m ≤ k)
            → get_or (bytes_of (before ++ piece)) k 0 ≡ get_or (bytes_of first ++ bytes_of piece) k 0
        at k inside (inl early) =
            byte_at (before ++ piece) k (omega (arith, inside, byte_count_of (before ++ piece)))
            ∙ same-byte (before ++ piece) first (8 * k) (8 * k) (early_symbol k early)
            ∙ sym (get_or_append_left (bytes_of first) (bytes_of piece) 0 k (omega (arith, early, count))
            ∙ byte_at first k (omega (arith, early, firsts)))
        at k inside (inr late) =
            byte_at (before ++ piece) k (omega (arith, inside, byte_count_of (before ++ piece)))
            ∙ same-byte (before ++ piece) piece (8 * k) (8 * (k - m)) (late_symbol k late)
            ∙ sym (get_or-append_right (bytes_of first) (bytes_of piece) m k 0 count late
            ∙ byte_at piece (k - m) (omega (arith, inside, late, byte_count_of (before ++ piece), length-append before piece, whole, some)))

-- ---- the symbols that are kept

abbrev pub erasures : List ℤ
erasures = replicate symbols_kept (pos 0)

module _ (before : List ℤ) (place : ℕ) (taken : length before ≡ place) where
  front : (xs : List ℤ) → drop place (erasures ++ (before ++ xs)) ≡ drop place (erasures ++ before) ++ xs
  front xs = grind (arith, common_steps, append_assoc erasures before xs, drop-append-le place (erasures ++ before) xs, length-append erasures before)

  front_long : length (drop place (erasures ++ before)) ≡ symbols_kept
  front_long = grind (arith, common_steps, length-drop, length-append, length-replicate)

  -- the symbols kept and those after them are the last of all
  pub kept-on : (kept one piece : List ℤ) → kept ≡ take symbols_kept (drop place (erasures ++ (before ++ one)))
      → kept ++ piece ≡ drop place (erasures ++ (before ++ piece))
  kept-on kept one piece is = grind (arith, common_steps, front, front_long, take-append_seam (drop place (erasures ++ before)) one)

  -- and of these the symbols of the bytes that are kept
  pub part-symbols : (kept one piece : List ℤ) (k : ℕ) → kept ≡ take symbols_kept (drop place (erasures ++ (before ++ one))) → k ≤ symbols_kept → k ≤ place
      → drop (symbols_kept - k) (kept ++ piece) ≡ drop (place - k) (before ++ piece)
  part-symbols kept one piece k is few early = grind (arith, common_steps, kept-on kept one piece is, drop-drop (symbols_kept - k) place (erasures ++ (before ++ piece)), drop-append-add erasures (before ++ piece) (place - k), length-replicate symbols_kept (pos 0))

-- ---- a part and the whole

abbrev heard_by : Bool → Bool → Bool → List ℤ → Option (List ℤ)
heard_by ends touches there symbols = if ends && not touches && there then Some symbols else None

module _ (part whole : Signal) (P W later : List ℤ) (d n : ℕ) (are : AreGaps (2 ^ 36) whole.gaps) (long : length_of part ≡ n)
    (gaps : part.gaps ≡ gaps_within whole.gaps d n) (held : length P ≡ n + 1) (split : drop d W ≡ P ++ later) (reach : d + n ≤ length_of whole)
    (reached : d + n < length W) where
  pub symbols-alike : AreSymbolsOf part P n whole W d
  unfolding touched
  symbols-alike first early =
      let place : first + 25 + d ≡ first + d + 25 = omega arith in
      let ends : nat_lt (first + 25) (length_of part) ≡ nat_lt (first + d + 25) (length_of whole) =
      lt-ltb (first + 25) (length_of part) (omega (arith, long, early)) ∙ sym (lt-ltb (first + d + 25) (length_of whole) (omega (arith, reach, early))) in
      let touches : touched part (first + 25) ≡ touched whole (first + d + 25) =
      ap (list_any (is_touched_by (first + 25))) gaps
      ∙ part-touched (2 ^ 36) d n whole.gaps are (first + 25) (omega arith) early
      ∙ ap (λ (p : ℕ). list_any (is_touched_by p) whole.gaps) place in
      let there : nat_lt (first + 26) (length P) ≡ nat_lt (first + d + 26) (length W) =
      lt-ltb (first + 26) (length P) (omega (arith, held, early)) ∙ sym (lt-ltb (first + d + 26) (length W) (omega (arith, reached, early))) in
      let at : d + first ≡ first + d = omega arith in
      let same : take 27 (drop first P) ≡ take 27 (drop (first + d) W) =
      sym (take-append-le 27 (drop first P) later (omega (arith, held, early, length-drop first P)))
      ∙ ap (take 27) (sym (drop-append-le first P later (omega (arith, held, early))))
      ∙ ap (λ (xs : List ℤ). take 27 (drop first xs)) (sym split)
      ∙ ap (take 27) (drop-drop first d W)
      ∙ ap (λ (k : ℕ). take 27 (drop k W)) at in
      ap (λ (e : Bool). heard_by e (touched part (first + 25)) (nat_lt (first + 26) (length P)) (take 27 (drop first P))) ends
      ∙ ap (λ (t : Bool). heard_by (nat_lt (first + d + 25) (length_of whole)) t (nat_lt (first + 26) (length P)) (take 27 (drop first P))) touches
      ∙ ap₂ (λ (h : Bool) (xs : List ℤ). heard_by (nat_lt (first + d + 25) (length_of whole)) (touched whole (first + d + 25)) h xs) there same
