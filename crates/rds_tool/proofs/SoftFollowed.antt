-- How far a stream of symbols was followed, and where it breaks off.
use Rattle.rds_tool.proofs.Names.{common_steps, ◌≡◌, ◌≢◌, ◌+◌, ◌-◌, ◌^◌, ◌<◌, ◌≤◌, ◌++◌, ◌⊎◌, ◌↔◌, ◌∙◌, Bool, ℕ, List, [], None, Ok, Option, Result, Some, inl, inr, length, map, true, sym, ap, subst, arith, append_assoc, IfErr, IfSome, IsErrOf, OnErr, OnOk, flat_map, range_with_len, Appends, IsAtEnd, le-ltb, flat_map-append, append-nil, length-append, map-append, item_again, symbols_of, SoftTerms, group_item, read_again, hard_bit, SoftItem, AreGaps, length_of, RunsAreReports, IsLossRule, items_of_end, run, Searching, AreAsked, Follows, HasAll, IsShortOf as IsShort, claim_or, Breaks, IsHeard, IsNear, WritesPrefix, claimed_of, soft_row, soft_text, soft_totals_text, soft_listed, soft_rows_so_far, soft_stream_text, symbol_stream, RdsError, BadGaps, BitsPastBytes, OutOfMemory, TooLong, Write}
use Rattle.rds_tool.{specs.declared.devices.Source.Ghosts as Source, proofs.Followed.IsOfStream, proofs.Followed.breaks_still, proofs.Followed.follows_end, proofs.Followed.near_end, proofs.Followed.read_none, proofs.GapLists.pass_as_gaps}
use Rattle.rds_rows.specs.declared.sink.Sink.{Ghosts as Sink}
use Rattle.rds_soft.{specs.SoftStream.complete, specs.SoftStream.report_of, specs.SoftStream.run_of, specs.SoftStream.signal_of, specs.SoftTotals.soft_totals_of, specs.declared.soft_item.SoftGroup.SoftGroup, specs.declared.soft_totals.SoftTotals.SoftTotals, proofs.PartLemmas.length-bits, proofs.PartLemmas.length-symbols}

-- ---- the listing

module _ (terms : SoftTerms) (symbols : List ℕ) where
  abbrev ending : List SoftItem → List ℕ
  ending items = soft_totals_text (soft_totals_of items)

  -- the rows so far, and the rest
  text-split : (last : List SoftItem) → complete terms symbols ++ last ≡ report_of terms symbols
      → soft_stream_text terms symbols ≡ soft_rows_so_far terms symbols ++ (flat_map soft_row last ++ ending (report_of terms symbols))
  text-split last whole = grind (arith, common_steps, flat_map-append, append_assoc)

  pub text-ends : (group : Option SoftGroup) (totals : SoftTotals) (text : List ℕ) → complete terms symbols ++ group_item group ≡ report_of terms symbols
      → totals ≡ soft_totals_of (report_of terms symbols) → text ≡ flat_map soft_row (group_item group) ++ soft_totals_text totals
      → soft_stream_text terms symbols ≡ soft_rows_so_far terms symbols ++ text
  text-ends group totals text whole sum is =
      text-split (group_item group) whole
      ∙ ap (λ (t : SoftTotals). soft_rows_so_far terms symbols ++ (flat_map soft_row (group_item group) ++ soft_totals_text t)) (sym sum)
      ∙ ap (λ (rows : List ℕ). soft_rows_so_far terms symbols ++ rows) (sym is)

  bits-long : length_of (signal_of terms symbols) ≡ length symbols - 1
  bits-long = length-bits (symbols_of symbols) ∙ ap (λ (n : ℕ). n - 1) (length-symbols symbols)

  abbrev last-items : List SoftItem
  last-items = read_again terms symbols (items_of_end (signal_of terms symbols) terms.rules (run_of terms symbols).0)

  pub text-begins : RunsAreReports → IsLossRule terms.rules.loss
      → soft_stream_text terms symbols ≡ soft_rows_so_far terms symbols ++ (flat_map soft_row last-items ++ ending (report_of terms symbols))
  text-begins reports loss =
      let b = signal_of terms symbols in
      text-split last-items
      (sym (map-append (item_again b (symbols_of symbols) terms.margin) (run_of terms symbols).1 (items_of_end b terms.rules (run_of terms symbols).0))
      ∙ ap (read_again terms symbols)
      (ap (λ (n : ℕ). (run b terms.rules Searching 0 n).1 ++ items_of_end b terms.rules (run b terms.rules Searching 0 n).0) (sym bits-long) ∙ reports b terms.rules loss))

  -- a soft list of these symbols
  abbrev text-of : List ℕ → List ℕ
  text-of bs = soft_text true terms.rules terms.margin symbols (record { bits = bs; gaps = terms.gaps })

  pub listed-is : (bits : Option ℕ) → claimed_of bits symbols ≡ length symbols - 1 → length symbols ≤ 2 ^ 36 + 1 → AreGaps (length symbols - 1) terms.gaps
      → soft_listed terms bits symbols ≡ Ok (soft_stream_text terms symbols)
  listed-is bits claim limit are =
      let n : ℕ = length symbols - 1 in
      let all : n ≡ length (symbols_of symbols) - 1 = ap (λ (k : ℕ). k - 1) (sym (length-symbols symbols)) in
      rw (claim, le-ltb (2 ^ 36) n (omega (arith, limit)), le-ltb n n (omega arith), pass_as_gaps terms.gaps n are)
      (ap (λ (k : ℕ). Ok (text-of (map (hard_bit (symbols_of symbols)) (range_with_len 0 k)))) all)

-- ---- a stream that is heard

pub counts-more : (bits : Option ℕ) (count room : ℕ) (heard more : List ℕ) → IfSome bits (λ n. count + room ≤ n + 1) → count ≡ length heard → length more ≤ room
    → IfSome bits (λ n. length (heard ++ more) - 1 ≤ n)
counts-more bits count room heard more within is few = grind (arith, common_steps, length-append)

pub asked-more : (bits : Option ℕ) (heard more : List ℕ) → IfSome bits (λ n. length (heard ++ more) - 1 ≤ n) → AreAsked bits 1 (length heard - 1) (length (heard ++ more) - 1)
asked-more bits heard more counts = grind (arith, common_steps, length-append)

pub asked-count : (bits : Option ℕ) (symbols : List ℕ) (count : ℕ) → IfSome bits (λ n. length symbols - 1 ≤ n) → count ≡ length symbols → IfSome bits (λ n. count ≤ n + 1)
asked-count bits symbols count asked is = grind (arith, common_steps)

module _ (bits : Option ℕ) (symbols : List ℕ) (counts : IfSome bits (λ n. length symbols - 1 ≤ n)) where
  claimed-all : (IsShort bits (length symbols - 1) → ⊥) → claimed_of bits symbols ≡ length symbols - 1
  claimed-all enough = grind (arith, common_steps)

  claim-all : (IsShort bits (length symbols - 1) → ⊥) → claim_or bits (length symbols - 1) ≡ length symbols - 1
  claim-all enough = grind (arith, common_steps)

  has-all : (ended : Bool) (E : Type 0) → IsNear bits 1 (length symbols - 1) (E × (ended ≡ true)) → (IsShort bits (length symbols - 1) → ⊥) → HasAll bits 1 (length symbols - 1) ended
  has-all ended E near enough = grind (arith, common_steps)

short-end : (bits : Option ℕ) (size : ℕ) (E : Type 0) → IsNear bits 1 size E → IsShort bits size → E
short-end None size E near short = absurd short
short-end (Some n) size E (inl less) short = absurd (omega (arith, less, short))
short-end (Some n) size E (inr end) short = end

of-end : (e : RdsError) → (e ≡ OutOfMemory) ⊎ ((e ≡ BitsPastBytes) ⊎ (e ≡ BadGaps)) → IsOfStream e
of-end e it = grind (arith, common_steps)

not-long : (e : RdsError) → (e ≡ OutOfMemory) ⊎ ((e ≡ BitsPastBytes) ⊎ (e ≡ BadGaps)) → e ≢ TooLong
not-long e it p = grind (arith, common_steps)

module _ {R W : Type 0} (source : Source R) (sink : Sink W) (terms its_terms : SoftTerms) (bits : Option ℕ) {reader reader1 : R} {writer writer1 : W} {symbols : List ℕ}
    (h : IsHeard source sink (symbol_stream terms bits) reader reader1 writer writer1 symbols) (same : its_terms ≡ terms)
    (near : IsNear bits 1 (length symbols - 1) (IsAtEnd (source.remaining reader1) × (source.has_ended reader1 ≡ true))) where
  none-more : symbols ≡ symbols ++ []
  none-more = sym (append-nil symbols)

  -- the rest of the listing was not made
  pub breaks-end : (e : RdsError) → (e ≡ OutOfMemory) ⊎ ((e ≡ BitsPastBytes) ⊎ (e ≡ BadGaps)) → (e ≡ BitsPastBytes → IsShort bits (length symbols - 1))
      → (e ≡ BadGaps → (IsShort bits (length symbols - 1) → ⊥) × (AreGaps (length symbols - 1) its_terms.gaps → ⊥))
      → Breaks source sink (symbol_stream terms bits) reader reader1 writer writer1 e
  breaks-end e kinds past gaps =
      breaks_still h (read_none h (omega arith)) e (of-end e kinds) (λ p. absurd (not-long e kinds p))
      (λ p. let end = short-end bits (length symbols - 1) _ near (past p) in (subst (λ xs. IsShort bits (length xs - 1)) none-more (past p), end.1, end.0))
      (λ p. inr (
        λ are. (gaps p).1 (subst (λ (t : SoftTerms). AreGaps (length symbols - 1) t.gaps) (sym same) (subst (λ (m : ℕ). AreGaps m terms.gaps) (claim-all bits symbols h.counts (gaps p).0)
            (subst (λ xs. AreGaps (claim_or bits (length xs - 1)) terms.gaps) (append-nil symbols) are))),
        near_end bits 1 (length symbols - 1) _ _ near,
      ))

  -- it was made
  pub follows-end : (writer2 : W) (x : Result (Unit {0}) RdsError) (text : List ℕ) → soft_stream_text its_terms symbols ≡ soft_rows_so_far its_terms symbols ++ text
      → (IsShort bits (length symbols - 1) → ⊥) → length symbols ≤ 2 ^ 36 + 1 → AreGaps (length symbols - 1) its_terms.gaps → IfErr x (λ e. e ≡ Write)
      → OnOk x (Appends (sink.contents writer1) (sink.contents writer2) text) → OnOk x (sink.is_flushed writer2 ≡ true)
      → IsErrOf x Write ↔ (sink.failed writer1 < sink.failed writer2) → OnErr x (WritesPrefix (sink.contents writer1) (sink.contents writer2) (Ok text))
      → Follows source sink (symbol_stream terms bits) reader reader1 writer writer2 x
  follows-end writer2 x text ends enough limit are kind wrote flush fails prefix =
      let gaps : AreGaps (length symbols - 1) terms.gaps = subst (λ (t : SoftTerms). AreGaps (length symbols - 1) t.gaps) same are in
      follows_end h (read_none h (omega arith)) writer2 x text
      (ap (soft_stream_text terms) (append-nil symbols) ∙ subst (λ (t : SoftTerms). soft_stream_text t symbols ≡ soft_rows_so_far t symbols ++ text) same ends)
      (subst (λ xs. soft_listed terms bits xs ≡ Ok (soft_stream_text terms xs)) none-more (listed-is terms symbols bits (claimed-all bits symbols h.counts enough) limit gaps))
      (subst (λ xs. HasAll bits 1 (length xs - 1) (source.has_ended reader1)) none-more (has-all bits symbols h.counts (source.has_ended reader1) _ near enough))
      (near_end bits 1 (length symbols - 1) _ _ near) kind wrote flush fails prefix
