-- The progress of a stream so far, and where it breaks off.
use Rattle.rds_tool.proofs.Names.{common_steps, if◌then◌else◌, nat_lt, not, may_be_gaps, Signal, ◌≡◌, ◌≢◌, ◌+◌, ◌-◌, ◌*◌, ◌/◌, ◌%◌, ◌^◌, ◌<◌, ◌≤◌, ◌++◌, ◌⊎◌, ◌↔◌, ℕ, Bool, List, [], ◌∷◌, Err, None, Ok, Option, Result, Some, eqb, false, true, inl, inr, length, map, take, refl, sym, zero, suc, ap, ap₂, ◌∙◌, subst, arith, append_assoc, IfErr, IfSome, IsErrOf, OnErr, OnOk, bit_at, flat_map, range_with_len, Appends, Consumes, IsAtEnd, Keeps, Appends-nil, Appends-trans, Consumes-kept, Consumes-nil, Consumes-trans, get_or-append, eqb-false, le-ltb, flat_map-append, append-nil, length-append, length-take, length-map-range_with_len, LiveOf, HasHeard, Terms, complete, live_of, report_at, run_of, signal_at, signal_of, AreGaps, bits_of, length_of, packed_bit, Item, Searching, RunsAreReports, IsLossRule, items_of_end, run, Totals, totals_of, AreAsked, Follows, HasAll, IsLong, IsShortOf as IsShort, MayBreakOff, Stream, bit_stream, claim_or, counted, listed, rows_so_far, stream_text, Gave, and_then, claimed, first_bits, Breaks, IsHeard, IsNear, IsPlaceOf, IsShortEnough, bits_left, item_row, report_text, totals_text, Writes, WritesPrefix, list_text, RdsError, BadGaps, BitsPastBytes, OutOfMemory, Read, TooLong, Write}
use Rattle.rds_tool.{specs.declared.devices.Source.Ghosts as Source, proofs.GapLists.pass_as_gaps, proofs.Passing.ok_is_no_err, proofs.Passing.passed_kind}
use Rattle.rds_code.specs.Refusals.{number_of}
use Rattle.rds_rows.specs.declared.sink.Sink.{Ghosts as Sink}

-- ---- a read

front_whole : (xs ys : List ℕ) → take (length xs) (xs ++ ys) ≡ xs
front_whole [] ys = refl
front_whole (x ∷ xs) ys = ap (λ zs. x ∷ zs) (front_whole xs ys)

-- a vector of which all was lent
pub lent_whole : (len : ℕ) (buf rest : List ℕ) → length buf ≡ len → take len (buf ++ rest) ≡ buf
lent_whole len buf rest long = subst (λ m. take m (buf ++ rest) ≡ buf) long (front_whole buf rest)

-- the front of it
pub front_is : (n len : ℕ) (all buf rest : List ℕ) → length buf ≡ len → all ≡ take len (buf ++ rest) → take n all ≡ take n buf
front_is n len all buf rest long is = ap (take n) (is ∙ lent_whole len buf rest long)

pub long_taken : (n : ℕ) (bytes buf : List ℕ) → bytes ≡ take n buf → n ≤ length buf → length bytes ≡ n
long_taken n bytes buf is within = let count : length bytes ≡ length (take n buf) = ap (λ (xs : List ℕ). length xs) is in omega (arith, count, length-take n buf, within)

pub some_taken : (n : ℕ) (bytes buf : List ℕ) → bytes ≡ take n buf → (n ≡ 0 → ⊥) → n ≤ length buf → 0 < length bytes
some_taken n bytes buf is some within = omega (arith, long_taken n bytes buf is within, some)

-- a read of these symbols, after those that were heard
pub record IsRead {R : Type 0} (source : Source R) (s : Stream) (reader reader' : R) (heard last : List ℕ) : Type 0 where
  pub gave : source.given reader' ≡ source.given reader ++ last
  pub took : Consumes (source.remaining reader) (source.remaining reader') last
  pub reads : source.failed reader' ≡ source.failed reader
  pub few : length last ≤ s.most
  pub asked : AreAsked s.claim s.step (s.size heard) (s.size (heard ++ last))

pub is_read : {R : Type 0} (source : Source R) (s : Stream) (reader reader' : R) (heard : List ℕ) (n : ℕ) (bytes buf : List ℕ) → bytes ≡ take n buf → n ≤ length buf
    → source.given reader' ≡ source.given reader ++ take n buf → Consumes (source.remaining reader) (source.remaining reader') (take n buf)
    → source.failed reader' ≡ source.failed reader → n ≤ s.most → AreAsked s.claim s.step (s.size heard) (s.size (heard ++ bytes)) → IsRead source s reader reader' heard bytes
is_read source s reader reader' heard n bytes buf is within gave took reads few asked = record {
  gave = gave ∙ ap (λ xs. source.given reader ++ xs) (sym is);
  took = subst (λ xs. Consumes (source.remaining reader) (source.remaining reader') xs) (sym is) took;
  reads = reads;
  few = omega (arith, few, long_taken n bytes buf is within);
  asked = asked;
}

-- ---- any stream

-- what neither device is to blame for
abbrev pub IsOfStream : RdsError → Type 0
IsOfStream e = (e ≡ OutOfMemory) ⊎ ((e ≡ TooLong) ⊎ ((e ≡ BitsPastBytes) ⊎ (e ≡ BadGaps)))

not_read : (e : RdsError) → IsOfStream e → e ≢ Read
not_read e of p = grind (arith, common_steps)

not_write : (e : RdsError) → IsOfStream e → e ≢ Write
not_write e of p = grind (arith, common_steps)

may_of : (e : RdsError) → IsOfStream e → MayBreakOff e
may_of e of = grind (arith, common_steps)

first_of : {A B C : Type 0} → A ⊎ (B × C) → A ⊎ B
first_of (inl a) = inl a
first_of (inr b) = inr b.0

second_of : {A B C : Type 0} → A ⊎ (B × C) → A ⊎ C
second_of (inl a) = inl a
second_of (inr b) = inr b.1

pub asked_still : (claim : Option ℕ) (step size : ℕ) → 0 < step → IfSome claim (λ n. size ≤ n) → AreAsked claim step size size
asked_still None step size some counts = tt
asked_still (Some n) step size some counts = (counts, omega (arith, counts, some))

-- an error that a call passes on
err_is : (T : Type 0) (e k : RdsError) → (let r : Result T RdsError = Err e in r ≡ Err k) → e ≡ k
err_is T e k p = cc

pub follows_err : {R W : Type 0} {source : Source R} {sink : Sink W} {s : Stream} {reader reader' : R} {writer writer' : W} (r : Result (Unit {0}) RdsError) (e : RdsError) → r ≡ Err e
    → Breaks source sink s reader reader' writer writer' e → Follows source sink s reader reader' writer writer' r
follows_err {source = source} {sink = sink} {s = s} {reader = reader} {reader' = reader'} {writer = writer} {writer' = writer'} r e is b =
    subst (λ x. Follows source sink s reader reader' writer writer' x) (sym is) (record {
      ok = tt;
      took = b.took;
      end = tt;
      past = λ p. b.past (err_is (Unit {0}) e BitsPastBytes p);
      bad_gaps = λ p. b.bad_gaps (err_is (Unit {0}) e BadGaps p);
      read = (λ p. b.read.0 (err_is (Unit {0}) e Read p), λ q. ap (λ x. Err x) (b.read.1 q));
      write = (λ p. b.write.0 (err_is (Unit {0}) e Write p), λ q. ap (λ x. Err x) (b.write.1 q));
      refused = b.may;
      broke_off = b.broke_off;
    })

pub heard_as : {R W : Type 0} {source : Source R} {sink : Sink W} {s : Stream} {reader reader' : R} {writer writer' : W} {xs : List ℕ} (ys : List ℕ) → xs ≡ ys
    → IsHeard source sink s reader reader' writer writer' xs → IsHeard source sink s reader reader' writer writer' ys
heard_as {source = source} {sink = sink} {s = s} {reader = reader} {reader' = reader'} {writer = writer} {writer' = writer'} ys same h =
    subst (λ zs. IsHeard source sink s reader reader' writer writer' zs) same h

pub heard_none : {R W : Type 0} (source : Source R) (sink : Sink W) (s : Stream) (reader : R) (writer : W) → s.rows [] ≡ [] → IfSome s.claim (λ n. s.size [] ≤ n)
    → IsHeard source sink s reader reader writer writer []
heard_none source sink s reader writer none counts = record {
  gave = sym (append-nil (source.given reader));
  took = Consumes-nil (source.remaining reader);
  counts = counts;
  written = subst (λ rows. Appends (sink.contents writer) (sink.contents writer) rows) (sym none) (Appends-nil (sink.contents writer));
  flush = inl refl;
  reads = refl;
  writes = refl;
}

module _ {R W : Type 0} {source : Source R} {sink : Sink W} {s : Stream} {reader reader1 : R} {writer writer1 : W} {heard : List ℕ}
    (h : IsHeard source sink s reader reader1 writer writer1 heard) where
  still_asked : 0 < s.step → AreAsked s.claim s.step (s.size heard) (s.size (heard ++ []))
  still_asked some = subst (λ xs. AreAsked s.claim s.step (s.size heard) (s.size xs)) (sym (append-nil heard)) (asked_still s.claim s.step (s.size heard) some h.counts)

  -- nothing is read after these
  pub read_none : 0 < s.step → IsRead source s reader1 reader1 heard []
  read_none some = record {
    gave = sym (append-nil (source.given reader1));
    took = Consumes-nil (source.remaining reader1);
    reads = refl;
    few = omega arith;
    asked = still_asked some;
  }

  -- no more came
  pub heard_end : (reader2 : R) (n : ℕ) (buf : List ℕ) → n ≡ 0 → source.given reader2 ≡ source.given reader1 ++ take n buf
      → Consumes (source.remaining reader1) (source.remaining reader2) (take n buf) → source.failed reader2 ≡ source.failed reader1
      → IsHeard source sink s reader reader2 writer writer1 heard
  heard_end reader2 n buf none gave took reads = record {
    gave = gave ∙ (ap (λ m. source.given reader1 ++ take m buf) none ∙ (append-nil (source.given reader1) ∙ h.gave));
    took = subst (λ xs. Consumes (source.remaining reader) (source.remaining reader2) xs) (ap (λ m. heard ++ take m buf) none ∙ append-nil heard)
        (Consumes-trans (source.remaining reader) (source.remaining reader1) (source.remaining reader2) heard (take n buf) h.took took);
    counts = h.counts;
    written = h.written;
    flush = h.flush;
    reads = reads ∙ h.reads;
    writes = h.writes;
  }

  -- the next read fails
  pub breaks_read : (reader2 : R) (e : RdsError) → 0 < s.step → e ≡ Read → Keeps (source.remaining reader1) (source.remaining reader2) → source.given reader2 ≡ source.given reader1
      → source.failed reader1 < source.failed reader2 → Breaks source sink s reader reader2 writer writer1 e
  breaks_read reader2 e some is kept none fails =
      let gave : source.given reader2 ≡ source.given reader ++ heard = none ∙ h.gave in
      record {
        broke_off = record {
          heard = heard;
          last = [];
          few = omega arith;
          gave = gave ∙ ap (λ xs. source.given reader ++ xs) (sym (append-nil heard));
          asked = still_asked some;
          prompt = λ _. (refl, (heard, gave, (h.written, h.flush)));
          between = λ _. h.written;
          within = λ p. cc;
          too_long = λ p. cc;
          past = λ p. cc;
          bad_gaps = λ p. cc;
        };
        took = (heard, gave, Consumes-kept (source.remaining reader) (source.remaining reader1) (source.remaining reader2) heard h.took kept);
        past = λ p. cc;
        bad_gaps = λ p. cc;
        read = (λ _. omega (arith, fails, h.reads), λ _. is);
        write = (λ p. cc, λ less. absurd (omega (arith, less, h.writes)));
        may = inr (inl is);
      }

  module _ {reader2 : R} {last : List ℕ} (r : IsRead source s reader1 reader2 heard last) where
    gave_all : source.given reader2 ≡ source.given reader ++ (heard ++ last)
    gave_all = r.gave ∙ (ap (λ w. w ++ last) h.gave ∙ append_assoc (source.given reader) heard last)

    took_all : Consumes (source.remaining reader) (source.remaining reader2) (heard ++ last)
    took_all = Consumes-trans (source.remaining reader) (source.remaining reader1) (source.remaining reader2) heard last h.took r.took

    -- these were heard too
    pub heard_more : (writer2 : W) (rows : List ℕ) → s.rows (heard ++ last) ≡ s.rows heard ++ rows → Appends (sink.contents writer1) (sink.contents writer2) rows
        → IfSome s.claim (λ n. s.size (heard ++ last) ≤ n) → sink.is_flushed writer2 ≡ true → sink.failed writer2 ≡ sink.failed writer1
        → IsHeard source sink s reader reader2 writer writer2 (heard ++ last)
    heard_more writer2 rows more did counts flush writes = record {
      gave = gave_all;
      took = took_all;
      counts = counts;
      written = subst (λ ys. Appends (sink.contents writer) (sink.contents writer2) ys) (sym more)
          (Appends-trans (sink.contents writer) (sink.contents writer1) (sink.contents writer2) (s.rows heard) rows h.written did);
      flush = inr flush;
      reads = r.reads ∙ h.reads;
      writes = writes ∙ h.writes;
    }

    -- following breaks off, and the writer is as it was
    pub breaks_still : (e : RdsError) → IsOfStream e → (e ≡ TooLong → IsLong s.claim ⊎ (2 ^ 36 < s.size (heard ++ last)))
        → (e ≡ BitsPastBytes → IsShort s.claim (s.size (heard ++ last)) × (source.has_ended reader2 ≡ true) × IsAtEnd (source.remaining reader2))
        → (e ≡ BadGaps → (AreGaps (2 ^ 36) s.gaps → ⊥) ⊎ ((AreGaps (claim_or s.claim (s.size (heard ++ last))) s.gaps → ⊥) × (s.claim ≡ None → IsAtEnd (source.remaining reader2))))
        → Breaks source sink s reader reader2 writer writer1 e
    breaks_still e of long past gaps = record {
      broke_off = record {
        heard = heard;
        last = last;
        few = r.few;
        gave = gave_all;
        asked = r.asked;
        prompt = λ p. absurd (not_read e of p);
        between = λ _. h.written;
        within = λ p. absurd (not_write e of p);
        too_long = long;
        past = λ p. ((past p).0, (past p).1);
        bad_gaps = λ p. first_of (gaps p);
      };
      took = (heard ++ last, gave_all, took_all);
      past = λ p. (past p).2;
      bad_gaps = λ p. second_of (gaps p);
      read = (λ p. absurd (not_read e of p), λ less. absurd (omega (arith, less, h.reads, r.reads)));
      write = (λ p. absurd (not_write e of p), λ less. absurd (omega (arith, less, h.writes)));
      may = may_of e of;
    }

    -- or a beginning of this text was written, of what is left of the listing
    pub breaks_write : (writer2 : W) (text rest : List ℕ) → s.text (heard ++ last) ≡ s.rows heard ++ (text ++ rest) → WritesPrefix (sink.contents writer1) (sink.contents writer2) (Ok text)
        → sink.failed writer1 < sink.failed writer2 → Breaks source sink s reader reader2 writer writer2 Write
    breaks_write writer2 text rest is (written, left, split, did) fails = record {
      broke_off = record {
        heard = heard;
        last = last;
        few = r.few;
        gave = gave_all;
        asked = r.asked;
        prompt = λ p. cc p;
        between = λ other. absurd (other refl);
        within = λ _. (
          written,
          left ++ rest,
          is ∙ ap (λ ys. s.rows heard ++ ys) (ap (λ ys. ys ++ rest) split ∙ append_assoc written left rest),
          Appends-trans (sink.contents writer) (sink.contents writer1) (sink.contents writer2) (s.rows heard) written h.written did,
        );
        too_long = λ p. cc p;
        past = λ p. cc p;
        bad_gaps = λ p. cc p;
      };
      took = (heard ++ last, gave_all, took_all);
      past = λ p. cc p;
      bad_gaps = λ p. cc p;
      read = (λ p. cc p, λ less. absurd (omega (arith, less, h.reads, r.reads)));
      write = (λ _. omega (arith, fails, h.writes), λ _. refl);
      may = inr (inr (inl refl));
    }

    -- the rows of the read, before what is left after it
    pub breaks_chunk : (writer2 : W) (e : RdsError) (rest : List ℕ) → (e ≡ OutOfMemory) ⊎ ((e ≡ Write) ⊎ (e ≡ TooLong)) → (e ≢ Write → writer2 ≡ writer1)
        → (e ≡ TooLong → 2 ^ 36 < s.size (heard ++ last)) → s.text (heard ++ last) ≡ s.rows (heard ++ last) ++ rest
        → (e ≡ Write → (rows : List ℕ) × (s.rows (heard ++ last) ≡ s.rows heard ++ rows) × WritesPrefix (sink.contents writer1) (sink.contents writer2) (Ok rows))
        → (e ≡ Write → sink.failed writer1 < sink.failed writer2) → Breaks source sink s reader reader2 writer writer2 e
    breaks_chunk writer2 e rest (inl is) still long ends rows fails =
        subst (λ w. Breaks source sink s reader reader2 writer w e) (sym (still (λ p. cc))) (breaks_still e (inl is) (λ p. cc) (λ p. cc) (λ p. cc))
    breaks_chunk writer2 e rest (inr (inl is)) still long ends rows fails =
        let (text, more, did) = rows is in
        subst (λ x. Breaks source sink s reader reader2 writer writer2 x) (sym is)
        (breaks_write writer2 text rest (ends ∙ (ap (λ ys. ys ++ rest) more ∙ append_assoc (s.rows heard) text rest)) did (fails is))
    breaks_chunk writer2 e rest (inr (inr is)) still long ends rows fails =
        subst (λ w. Breaks source sink s reader reader2 writer w e) (sym (still (λ p. cc))) (breaks_still e (inr (inl is)) (λ p. inr (long p)) (λ p. cc) (λ p. cc))

    -- the rest of the listing was written, or a beginning of it
    pub follows_end : (writer2 : W) (x : Result (Unit {0}) RdsError) (text : List ℕ) → s.text (heard ++ last) ≡ s.rows heard ++ text → s.listed (heard ++ last) ≡ Ok (s.text (heard ++ last))
        → HasAll s.claim s.step (s.size (heard ++ last)) (source.has_ended reader2) → (s.claim ≡ None → IsAtEnd (source.remaining reader2))
        → IfErr x (λ e. e ≡ Write) → OnOk x (Appends (sink.contents writer1) (sink.contents writer2) text) → OnOk x (sink.is_flushed writer2 ≡ true)
        → IsErrOf x Write ↔ (sink.failed writer1 < sink.failed writer2) → OnErr x (WritesPrefix (sink.contents writer1) (sink.contents writer2) (Ok text))
        → Follows source sink s reader reader2 writer writer2 x
    follows_end writer2 (Ok x) text ends lists all end kind wrote flush fails prefix = record {
      ok = record {
        symbols = heard ++ last;
        gave = gave_all;
        all = all;
        text = subst (λ (t : Result (List ℕ) RdsError). Writes (sink.contents writer) (sink.contents writer2) t) (sym lists)
            (subst (λ ys. Appends (sink.contents writer) (sink.contents writer2) ys) (sym ends)
            (Appends-trans (sink.contents writer) (sink.contents writer1) (sink.contents writer2) (s.rows heard) text h.written wrote));
        flush = flush;
      };
      took = (heard ++ last, gave_all, took_all);
      end = end;
      past = λ p. ok_is_no_err x BitsPastBytes p;
      bad_gaps = λ p. ok_is_no_err x BadGaps p;
      read = (λ p. ok_is_no_err x Read p, λ less. absurd (omega (arith, less, h.reads, r.reads)));
      write = subst (λ n. IsErrOf (Ok x) Write ↔ (n < sink.failed writer2)) h.writes fails;
      refused = tt;
      broke_off = tt;
    }
    follows_end writer2 (Err e) text ends lists all end kind wrote flush fails prefix =
        follows_err (Err e) e refl (subst (λ k. Breaks source sink s reader reader2 writer writer2 k) (sym kind)
        (breaks_write writer2 text [] (ends ∙ ap (λ ys. s.rows heard ++ ys) (sym (append-nil text))) prefix (fails.0 (ap (λ k. Err k) kind))))

-- following breaks off before anything is read
pub breaks_at_once : {R W : Type 0} {source : Source R} {sink : Sink W} {s : Stream} {reader : R} {writer : W} (e : RdsError) → 0 < s.step
    → IsHeard source sink s reader reader writer writer [] → (e ≡ OutOfMemory) ⊎ ((e ≡ TooLong) ⊎ (e ≡ BadGaps)) → (e ≡ TooLong → IsLong s.claim)
    → (e ≡ BadGaps → AreGaps (2 ^ 36) s.gaps → ⊥) → Breaks source sink s reader reader writer writer e
breaks_at_once e some h (inl is) long gaps = breaks_still h (read_none h some) e (inl is) (λ p. cc) (λ p. cc) (λ p. cc)
breaks_at_once e some h (inr (inl is)) long gaps = breaks_still h (read_none h some) e (inr (inl is)) (λ p. inl (long p)) (λ p. cc) (λ p. cc)
breaks_at_once e some h (inr (inr is)) long gaps = breaks_still h (read_none h some) e (inr (inr (inr is))) (λ p. cc) (λ p. cc) (λ p. inl (gaps p))

-- no symbol was given, since none was asked for or none is to come
pub near_by : (claim : Option ℕ) (step size room : ℕ) {E F : Type 0} → (room ≡ 0 → IfSome claim (λ n. n < size + step) × (claim ≢ None)) → (room ≡ 0) ⊎ E → (room ≡ 0) ⊎ F
    → IsNear claim step size (E × F)
near_by None step size room none (inl p) f = absurd ((none p).1 refl)
near_by None step size room none (inr e) (inl p) = absurd ((none p).1 refl)
near_by None step size room none (inr e) (inr f) = (e, f)
near_by (Some n) step size room none (inl p) f = inl (none p).0
near_by (Some n) step size room none (inr e) (inl p) = inl (none p).0
near_by (Some n) step size room none (inr e) (inr f) = inr (e, f)

-- ---- rows

-- rows of a chunk, after those of the bytes heard before
abbrev pub HasRows : Terms → List ℕ → List ℕ → List ℕ → Type 0
HasRows terms before bytes rows = rows_so_far terms (before ++ bytes) ≡ rows_so_far terms before ++ rows

-- the rows of its items are
pub has_rows : (terms : Terms) (before bytes rows : List ℕ) (items : List Item) → complete terms (before ++ bytes) ≡ complete terms before ++ items
    → rows ≡ flat_map item_row items → HasRows terms before bytes rows
has_rows terms before bytes rows items more is = grind (arith, common_steps, flat_map-append)

-- these bytes were heard, by the decoder
pub has_heard : (terms : Terms) (live : LiveOf) (heard : List ℕ) → live ≡ live_of terms heard → HasHeard live heard
has_heard terms live heard is = is ∙ ap (λ (t : Terms). live_of t heard) (sym (ap (λ (l : LiveOf). l.terms) is))

pub place_is : (terms : Terms) (live : LiveOf) (heard : List ℕ) → live ≡ live_of terms heard → live.place ≡ 8 * length heard
place_is terms live heard is = ap (λ (l : LiveOf). l.place) is

pub rows_by : {P : List ℕ → Type 0} (terms : Terms) (live : LiveOf) (heard bytes : List ℕ) → live ≡ live_of terms heard
    → ((before : List ℕ) → HasHeard live before → (rows : List ℕ) × HasRows live.terms before bytes rows × P rows) → (rows : List ℕ) × HasRows terms heard bytes rows × P rows
rows_by {P} terms live heard bytes is wrote =
    subst (λ (t : Terms). (rows : List ℕ) × HasRows t heard bytes rows × P rows) (ap (λ (l : LiveOf). l.terms) is) (wrote heard (has_heard terms live heard is))

pub heard_next : (terms : Terms) (live next : LiveOf) (heard bytes : List ℕ) → live ≡ live_of terms heard → ((before : List ℕ) → HasHeard live before → HasHeard next (before ++ bytes))
    → next.terms ≡ live.terms → next ≡ live_of terms (heard ++ bytes)
heard_next terms live next heard bytes is hears same =
    hears heard (has_heard terms live heard is) ∙ ap (λ (t : Terms). live_of t (heard ++ bytes)) (same ∙ ap (λ (l : LiveOf). l.terms) is)

-- how far the next state is from the most bits
pub smaller : (terms : Terms) (live next : LiveOf) (heard bytes : List ℕ) → live ≡ live_of terms heard → next ≡ live_of terms (heard ++ bytes) → live.place + 8 * length bytes ≤ 2 ^ 36
    → 0 < length bytes → 2 ^ 36 - next.place < 2 ^ 36 - live.place
smaller terms live next heard bytes is after fits some =
    omega (arith, fits, some, place_is terms live heard is, place_is terms next (heard ++ bytes) after, length-append heard bytes)

counted_all : (bits : Option ℕ) (bytes : List ℕ) → IfSome bits (λ n. 8 * length bytes ≤ n) → counted bits bytes ≡ 8 * length bytes
counted_all bits bytes all = grind (arith, common_steps, counted)

pub counts_more : (bits : Option ℕ) (place room : ℕ) (heard bytes : List ℕ) → IfSome bits (λ n. place + 8 * room ≤ n) → place ≡ 8 * length heard → length bytes ≤ room
    → IfSome bits (λ n. 8 * length (heard ++ bytes) ≤ n)
counts_more bits place room heard bytes within is few = grind (arith, common_steps, length-append)

pub asked_more : (bits : Option ℕ) (heard bytes : List ℕ) → IfSome bits (λ n. 8 * length (heard ++ bytes) ≤ n) → AreAsked bits 8 (8 * length heard) (8 * length (heard ++ bytes))
asked_more bits heard bytes counts = grind (arith, common_steps, length-append)

pub place_of_all : (bits : Option ℕ) (place : ℕ) (heard : List ℕ) → place ≡ 8 * length heard → IfSome bits (λ n. 8 * length heard ≤ n) → IsPlaceOf bits place
place_of_all bits place heard is all = grind (arith, common_steps)

-- the listing of a stream begins with the rows so far
pub listing_begins : (terms : Terms) (bits : Option ℕ) → RunsAreReports → IsLossRule terms.rules.loss → (bytes : List ℕ) → IfSome bits (λ n. 8 * length bytes ≤ n)
    → stream_text terms bits bytes ≡ rows_so_far terms bytes
    ++ (flat_map item_row (items_of_end (signal_of terms.gaps bytes) terms.rules (run_of terms bytes).0) ++ totals_text (totals_of (report_at terms bytes (8 * length bytes))))
listing_begins terms bits reports loss bytes all =
    let whole = signal_of terms.gaps bytes in
    let last : List Item = items_of_end whole terms.rules (run_of terms bytes).0 in
    let long : length_of whole ≡ 8 * length bytes = length-map-range_with_len (packed_bit bytes) 0 (8 * length bytes) in
    let items_are : report_at terms bytes (8 * length bytes) ≡ complete terms bytes ++ last =
    sym (ap (λ (n : ℕ). (run whole terms.rules Searching 0 n).1 ++ items_of_end whole terms.rules (run whole terms.rules Searching 0 n).0) (sym long)
    ∙ reports whole terms.rules loss) in
    let ending : List ℕ = totals_text (totals_of (report_at terms bytes (8 * length bytes))) in
    ap (λ (n : ℕ). list_text terms.rules (signal_at terms.gaps bytes n)) (counted_all bits bytes all)
    ∙ ap (λ (items : List Item). flat_map item_row items ++ ending) items_are
    ∙ ap (λ (rows : List ℕ). rows ++ ending) (flat_map-append item_row (complete terms bytes) last)
    ∙ append_assoc (rows_so_far terms bytes) (flat_map item_row last) ending

-- ---- the last bits

-- the rows that are left of a report
pub rest_is : (front items last report : List Item) (totals : Totals) (text : List ℕ) → front ++ items ++ last ≡ report → totals ≡ totals_of report
    → text ≡ flat_map item_row items ++ (flat_map item_row last ++ totals_text totals) → report_text report (totals_of report) ≡ flat_map item_row front ++ text
rest_is front items last report totals text whole sum is =
    let rows : List Item → List ℕ = flat_map item_row in
    let ending : List ℕ = totals_text totals in
    ap₂ (λ (r : List Item) (t : Totals). rows r ++ totals_text t) (sym whole) (sym sum)
    ∙ ap (λ (ys : List ℕ). ys ++ ending) (flat_map-append item_row (front ++ items) last ∙ ap (λ (ys : List ℕ). ys ++ rows last) (flat_map-append item_row front items))
    ∙ append_assoc (rows front ++ rows items) (rows last) ending
    ∙ append_assoc (rows front) (rows items) (rows last ++ ending)
    ∙ ap (λ (ys : List ℕ). rows front ++ ys) (sym is)

-- what is left is short enough
pub rest_fits : (bits : Option ℕ) (place there left : ℕ) → place ≡ there → place ≤ 2 ^ 36 → left ≡ bits_left bits place → IsShortEnough bits → IsPlaceOf bits there → there + left ≤ 2 ^ 36
rest_fits bits place there left same limit told short order = grind (arith, common_steps)

pub few_bits : (left n : ℕ) → left ≤ 8 * n → n ≤ 1 → left ≤ 8
few_bits left n held few = omega (arith, held, few)

front_bit : (xs ys : List ℕ) (i : ℕ) → i < 8 * length xs → packed_bit (xs ++ ys) i ≡ packed_bit xs i
front_bit xs ys i early = ap (λ (b : ℕ). bit_at b (7 - i % 8)) (get_or-append xs ys 0 (i / 8) (omega arith))

pub front_bits : (xs ys : List ℕ) (a n : ℕ) → a + n ≤ 8 * length xs → map (packed_bit (xs ++ ys)) (range_with_len a n) ≡ map (packed_bit xs) (range_with_len a n)
front_bits xs ys a zero held = refl
front_bits xs ys a (suc n) held = ap₂ (λ (b : ℕ) (bs : List ℕ). b ∷ bs) (front_bit xs ys a (omega arith)) (front_bits xs ys (a + 1) n (omega arith))

module _ (bits : Option ℕ) (place left n : ℕ) (heard last : List ℕ) (place_is : place ≡ 8 * length heard) (counts : IfSome bits (λ m. 8 * length heard ≤ m)) (left_is : left ≡ bits_left bits place)
    (long : length last ≡ n) (few : left ≤ 8 * n) (less : 8 * n < left + 8) where
  pub last_asked : AreAsked bits 8 (8 * length heard) (8 * length (heard ++ last))
  last_asked = grind (arith, common_steps, place_is, counts, left_is, long, few, less, length-append)

  pub claim_is : claim_or bits (8 * length (heard ++ last)) ≡ place + left
  claim_is = grind (arith, common_steps, place_is, counts, left_is, long, few, less, length-append)

  pub counted_is : counted bits (heard ++ last) ≡ place + left
  counted_is = grind (arith, common_steps, counted, place_is, counts, left_is, long, few, less, length-append)

  pub last_all : (near after : Bool) (E : Type 0) → IsNear bits 8 place (E × (near ≡ true)) → (left ≡ 0 → after ≡ near) → HasAll bits 8 (8 * length (heard ++ last)) after
  last_all near after E it same = grind (arith, common_steps, place_is, counts, left_is, long, few, less, length-append)

pub near_end : (bits : Option ℕ) (step size : ℕ) (E F : Type 0) → IsNear bits step size (E × F) → bits ≡ None → E
near_end None step size E F near is = near.0
near_end (Some n) step size E F near is = cc is

none_left : (bits : Option ℕ) (place : ℕ) → bits ≡ None → bits_left bits place ≡ 0
none_left None place is = refl
none_left (Some n) place is = cc is

-- the byte of the bits that are left was read, if there are some
pub record IsLast {R : Type 0} (source : Source R) (terms : Terms) (workers : ℕ) (bits : Option ℕ) (reader reader' : R) (place left : ℕ) (heard last : List ℕ) : Type 0 where
  pub read : IsRead source (bit_stream terms workers bits) reader reader' heard last
  pub all : HasAll bits 8 (8 * length (heard ++ last)) (source.has_ended reader')
  pub end : bits ≡ None → IsAtEnd (source.remaining reader')
  pub claim : claim_or bits (8 * length (heard ++ last)) ≡ place + left
  pub count : counted bits (heard ++ last) ≡ place + left
  pub held : place + left ≤ 8 * length (heard ++ last)

pub last_is : {R : Type 0} (source : Source R) (terms : Terms) (workers : ℕ) (bits : Option ℕ) (reader reader' : R) (live : LiveOf) (place left : ℕ) (heard : List ℕ) (n : ℕ) (buf : List ℕ)
    → live ≡ live_of terms heard → IfSome bits (λ m. 8 * length heard ≤ m) → place ≡ live.place → left ≡ bits_left bits place → (n ≤ length buf) × (left ≤ 8 * n) × (8 * n < left + 8) → n ≤ 1
    → source.given reader' ≡ source.given reader ++ take n buf → Consumes (source.remaining reader) (source.remaining reader') (take n buf) → source.failed reader' ≡ source.failed reader
    → (left ≡ 0 → reader' ≡ reader) → IsNear bits 8 live.place (IsAtEnd (source.remaining reader) × (source.has_ended reader ≡ true))
    → IsLast source terms workers bits reader reader' live.place left heard (take n buf)
last_is source terms workers bits reader reader' live place left heard n buf is counts there told fit one gave took reads still near =
    let at : live.place ≡ 8 * length heard = place_is terms live heard is in
    let left_is : left ≡ bits_left bits live.place = told ∙ ap (bits_left bits) there in
    let long : length (take n buf) ≡ n = long_taken n (take n buf) buf refl fit.0 in
    record {
      read = is_read source (bit_stream terms workers bits) reader reader' heard n (take n buf) buf refl fit.0 gave took reads (omega (arith, one))
          (last_asked bits live.place left n heard (take n buf) at counts left_is long fit.1 fit.2);
      all = last_all bits live.place left n heard (take n buf) at counts left_is long fit.1 fit.2 (source.has_ended reader) (source.has_ended reader') _ near
          (λ none. ap (λ r. source.has_ended r) (still none));
      end = λ none. subst (λ r. IsAtEnd (source.remaining r)) (sym (still (left_is ∙ none_left bits live.place none))) (near_end bits 8 live.place _ _ near none);
      claim = claim_is bits live.place left n heard (take n buf) at counts left_is long fit.1 fit.2;
      count = counted_is bits live.place left n heard (take n buf) at counts left_is long fit.1 fit.2;
      held = omega (arith, at, long, fit.1, length-append heard (take n buf));
    }

-- the end came before the byte of these bits
past_end : {R : Type 0} (source : Source R) (bits : Option ℕ) (place left : ℕ) (reader reader' : R) → left ≡ bits_left bits place → 0 < left
    → IsNear bits 8 place (IsAtEnd (source.remaining reader) × (source.has_ended reader ≡ true))
    → ((8 ≤ left) × (reader' ≡ reader)) ⊎ (IsAtEnd (source.remaining reader') × (source.has_ended reader' ≡ true))
    → IsAtEnd (source.remaining reader') × (source.has_ended reader' ≡ true)
past_end source bits place left reader reader' is some near (inr end) = end
past_end source None place left reader reader' is some near (inl (many, same)) = absurd (omega (arith, is, some))
past_end source (Some n) place left reader reader' is some (inl less) (inl (many, same)) = absurd (omega (arith, is, many, less))
past_end source (Some n) place left reader reader' is some (inr end) (inl (many, same)) = subst (λ r. IsAtEnd (source.remaining r) × (source.has_ended r ≡ true)) (sym same) end

short_of : (bits : Option ℕ) (place left : ℕ) (heard : List ℕ) → left ≡ bits_left bits place → 0 < left → place ≡ 8 * length heard → IsShort bits (8 * length (heard ++ []))
short_of bits place left heard is some at = grind (arith, common_steps, append-nil)

of_rest : (e : RdsError) → (e ≡ OutOfMemory) ⊎ (e ≡ BadGaps) → IsOfStream e
of_rest e it = grind (arith, common_steps)

claimed_is : (bits : Option ℕ) (bytes : List ℕ) → claimed bits bytes ≡ claim_or bits (8 * length bytes)
claimed_is None bytes = refl
claimed_is (Some n) bytes = refl

first_is : (n : ℕ) (gaps : List (ℕ × ℕ)) (bytes : List ℕ) → n ≤ 2 ^ 36 → n ≤ 8 * length bytes → AreGaps n gaps → first_bits n gaps bytes ≡ Ok (record { bits = bits_of bytes n; gaps = gaps })
first_is n gaps bytes short held are = rw (le-ltb (2 ^ 36) n short, le-ltb (8 * length bytes) n held, pass_as_gaps gaps n are) refl

lists : (terms : Terms) (bits : Option ℕ) (bytes : List ℕ) (m : ℕ) → claim_or bits (8 * length bytes) ≡ m → counted bits bytes ≡ m → m ≤ 2 ^ 36 → m ≤ 8 * length bytes → AreGaps m terms.gaps
    → listed terms bits bytes ≡ Ok (stream_text terms bits bytes)
lists terms bits bytes m claim count short held are =
    let text : Result Signal RdsError → Result (List ℕ) RdsError = λ r. and_then r (λ recording. Ok (list_text terms.rules recording)) in
    ap (λ (n : ℕ). text (first_bits n terms.gaps bytes)) (claimed_is bits bytes ∙ claim) ∙ ap text (first_is m terms.gaps bytes short held are)
    ∙ ap (λ (n : ℕ). Ok (list_text terms.rules (signal_at terms.gaps bytes n))) (sym count)

module _ {R W : Type 0} (source : Source R) (sink : Sink W) (terms : Terms) (workers : ℕ) (bits : Option ℕ) {reader reader1 : R} {writer writer1 : W} {heard : List ℕ}
    (h : IsHeard source sink (bit_stream terms workers bits) reader reader1 writer writer1 heard) (live : LiveOf) (is : live ≡ live_of terms heard) where
  -- that byte was not read
  pub breaks_last : (reader2 : R) (place left : ℕ) (e : RdsError) → (e ≡ Read) ⊎ (e ≡ BitsPastBytes) → place ≡ live.place → left ≡ bits_left bits place
      → IsNear bits 8 live.place (IsAtEnd (source.remaining reader1) × (source.has_ended reader1 ≡ true)) → Keeps (source.remaining reader1) (source.remaining reader2)
      → source.given reader2 ≡ source.given reader1 → (e ≡ Read → source.failed reader1 < source.failed reader2)
      → (e ≡ BitsPastBytes → (0 < left) × (source.failed reader2 ≡ source.failed reader1)
      × (((8 ≤ left) × (reader2 ≡ reader1)) ⊎ (IsAtEnd (source.remaining reader2) × (source.has_ended reader2 ≡ true))))
      → Breaks source sink (bit_stream terms workers bits) reader reader2 writer writer1 e
  breaks_last reader2 place left e (inl p) there told near kept none fails past = breaks_read h reader2 e (omega arith) p kept none (fails p)
  breaks_last reader2 place left e (inr p) there told near kept none fails past =
      let (some, reads, why) = past p in
      let left_is : left ≡ bits_left bits live.place = told ∙ ap (bits_left bits) there in
      let end = past_end source bits live.place left reader1 reader2 left_is some near why in
      let r : IsRead source (bit_stream terms workers bits) reader1 reader2 heard [] =
      record {
        gave = none ∙ sym (append-nil (source.given reader1));
        took = Consumes-kept (source.remaining reader1) (source.remaining reader1) (source.remaining reader2) [] (Consumes-nil (source.remaining reader1)) kept;
        reads = reads;
        few = omega arith;
        asked = still_asked h (omega arith);
      } in
      breaks_still h r e (inr (inr (inl p))) (λ q. cc) (λ _. (short_of bits live.place left heard left_is some (place_is terms live heard is), end.1, end.0)) (λ q. cc)

  module _ {reader2 : R} (left : ℕ) {last : List ℕ} (l : IsLast source terms workers bits reader1 reader2 live.place left heard last) where
    -- the rest of the listing was not made
    pub breaks_rest : (e : RdsError) → (e ≡ OutOfMemory) ⊎ (e ≡ BadGaps) → (e ≡ BadGaps → AreGaps (live.place + left) live.terms.gaps → ⊥)
        → Breaks source sink (bit_stream terms workers bits) reader reader2 writer writer1 e
    breaks_rest e kinds gaps =
        breaks_still h l.read e (of_rest e kinds) (λ p. absurd (no_long p kinds)) (λ p. absurd (no_past p kinds))
        (λ p. inr (λ are. gaps p (subst (λ (gs : List (ℕ × ℕ)). AreGaps (live.place + left) gs) (sym (ap (λ (l : LiveOf). l.terms.gaps) is)) (subst (λ (m : ℕ). AreGaps m terms.gaps) l.claim are)), l.end)) where
          no_long : e ≡ TooLong → (e ≡ OutOfMemory) ⊎ (e ≡ BadGaps) → ⊥
          no_long p (inl q) = cc
          no_long p (inr q) = cc

          no_past : e ≡ BitsPastBytes → (e ≡ OutOfMemory) ⊎ (e ≡ BadGaps) → ⊥
          no_past p (inl q) = cc
          no_past p (inr q) = cc

    -- it was made
    pub follows_rest : (writer2 : W) (x : Result (Unit {0}) RdsError) (text : List ℕ)
        → ((before : List ℕ) → HasHeard live before → let items = report_at live.terms (before ++ last) (8 * length before + left) in
        report_text items (totals_of items) ≡ rows_so_far live.terms before ++ text)
        → live.place + left ≤ 2 ^ 36 → AreGaps (live.place + left) live.terms.gaps → IfErr x (λ e. e ≡ Write)
        → OnOk x (Appends (sink.contents writer1) (sink.contents writer2) text) → OnOk x (sink.is_flushed writer2 ≡ true)
        → IsErrOf x Write ↔ (sink.failed writer1 < sink.failed writer2) → OnErr x (WritesPrefix (sink.contents writer1) (sink.contents writer2) (Ok text))
        → Follows source sink (bit_stream terms workers bits) reader reader2 writer writer2 x
    follows_rest writer2 x text rows short are kind wrote flush fails prefix =
        let terms_are : live.terms ≡ terms = ap (λ (l : LiveOf). l.terms) is in
        let gaps : AreGaps (live.place + left) terms.gaps = subst (λ (t : Terms). AreGaps (live.place + left) t.gaps) terms_are are in
        let ends : stream_text terms bits (heard ++ last) ≡ rows_so_far terms heard ++ text =
        ap (λ (m : ℕ). list_text terms.rules (signal_at terms.gaps (heard ++ last) m)) (l.count ∙ ap (λ (p : ℕ). p + left) (place_is terms live heard is))
        ∙ subst (λ (t : Terms). list_text t.rules (signal_at t.gaps (heard ++ last) (8 * length heard + left)) ≡ rows_so_far t heard ++ text) terms_are (rows heard (has_heard terms live heard is)) in
        follows_end h l.read writer2 x text ends (lists terms bits (heard ++ last) (live.place + left) l.claim l.count short l.held gaps) l.all l.end kind wrote flush fails prefix

-- ---- at a reader of known bytes

append_cancel : (xs a b : List ℕ) → xs ++ a ≡ xs ++ b → a ≡ b
append_cancel [] a b p = p
append_cancel (x ∷ xs) a b p = append_cancel xs a b (cc p)

listed_more : (terms : Terms) (n : ℕ) (bytes more : List ℕ) → n ≤ 8 * length bytes → listed terms (Some n) (bytes ++ more) ≡ listed terms (Some n) bytes
listed_more terms n bytes more held =
    rw (le-ltb (8 * length (bytes ++ more)) n (omega (arith, held, length-append bytes more)), le-ltb (8 * length bytes) n held)
    (ap (λ (bs : List ℕ). and_then (if nat_lt (2 ^ 36) n then Err TooLong else if not (may_be_gaps 0 terms.gaps n) then Err BadGaps else Ok (record { bits = bs; gaps = terms.gaps }))
    (λ recording. Ok (list_text terms.rules recording))) (front_bits bytes more 0 n (omega (arith, held))))

known : (terms : Terms) (bits : Option ℕ) (from to old new : Option (List ℕ)) (bytes : List ℕ) (ended : Bool) → Consumes from to bytes → (bits ≡ None → IsAtEnd to)
    → HasAll bits 8 (8 * length bytes) ended → Writes old new (listed terms bits bytes) → IfSome from (λ held. Writes old new (listed terms bits held))
known terms bits None to old new bytes ended took end all wrote = tt
known terms bits (Some a) None old new bytes ended took end all wrote = absurd took
known terms None (Some a) (Some b) old new bytes ended took end all wrote =
    subst (λ xs. Writes old new (listed terms None xs)) (sym (took ∙ (ap (λ ys. bytes ++ ys) (end refl) ∙ append-nil bytes))) wrote
known terms (Some n) (Some a) (Some b) old new bytes ended took end all wrote =
    subst (λ (r : Result (List ℕ) RdsError). Writes old new r) (sym (ap (listed terms (Some n)) took ∙ listed_more terms n bytes b all.0)) wrote

module _ {R W : Type 0} (source : Source R) (sink : Sink W) (terms : Terms) (workers : ℕ) (bits : Option ℕ) (reader reader' : R) (writer writer' : W) where
  abbrev Done : Result (Unit {0}) RdsError → Type 0
  Done r = Follows source sink (bit_stream terms workers bits) reader reader' writer writer' r

  pub known_ok : (r : Result (Unit {0}) RdsError) → Done r → OnOk r (IfSome (source.remaining reader) (λ held. Writes (sink.contents writer) (sink.contents writer') (listed terms bits held)))
  known_ok (Err e) f = tt
  known_ok (Ok x) f =
      let (bytes, gave, took) = f.took in
      let same : bytes ≡ f.ok.symbols = append_cancel (source.given reader) bytes f.ok.symbols (sym gave ∙ f.ok.gave) in
      known terms bits (source.remaining reader) (source.remaining reader') (sink.contents writer) (sink.contents writer') f.ok.symbols (source.has_ended reader')
      (subst (λ xs. Consumes (source.remaining reader) (source.remaining reader') xs) same took) f.end f.ok.all f.ok.text

  pub heard_ok : (r : Result (Unit {0}) RdsError) → Done r
      → OnOk r (Gave (source.given reader) (source.given reader') (λ bytes. HasAll bits 8 (8 * length bytes) (source.has_ended reader')
      × Writes (sink.contents writer) (sink.contents writer') (listed terms bits bytes)))
  heard_ok (Err e) f = tt
  heard_ok (Ok x) f = (f.ok.symbols, f.ok.gave, (f.ok.all, f.ok.text))

-- ---- refusals

-- a fact that holds in any case holds if there is a success
pub on_any_ok : {T E P : Type 0} (r : Result T E) → P → OnOk r P
on_any_ok r p = grind (arith, common_steps)

-- what follows of a step that came to its end
pub on_ok : {E : Type 0} (r : Result (Unit {0}) E) (P Q : Type 0) → (P → Q) → OnOk r P → OnOk r Q
on_ok r P Q more h = grind (arith, common_steps)

-- refusals with different numbers differ
pub differ : (a b : RdsError) → eqb (number_of a) (number_of b) ≡ false → a ≢ b
differ a b unlike = λ p. eqb-false (number_of a) (number_of b) unlike (ap number_of p)

-- an answer is of neither kind but these
pub of_neither : (e a b k : RdsError) → (e ≡ a) ⊎ (e ≡ b) → a ≢ k → b ≢ k → e ≢ k
of_neither e a b k (inl is) other _ p = other (sym is ∙ p)
of_neither e a b k (inr is) _ other p = other (sym is ∙ p)

module _ {T : Type 0} (r : Result T RdsError) (e : RdsError) (same : r ≡ Err e) where
  -- what is not of this kind is no device's refusal, and the device did not fail
  pub not_told : (k : RdsError) → e ≢ k → (start before after : ℕ) → before ≡ start → after ≡ before → (r ≡ Err k) ↔ (start < after)
  not_told k other start before after kept still = (λ p. absurd (other (passed_kind r e k same p)), λ q. absurd (omega (arith, kept, still, q)))

  pub no_such : {X : Type 0} (k : RdsError) → e ≢ k → r ≡ Err k → X
  no_such k other p = absurd (other (passed_kind r e k same p))

  -- what is told of a kind of refusal is told of the answer
  pub told_on : {U : Type 0} (k : RdsError) (start before after : ℕ) → before ≡ start → (let x : Result U RdsError = Err e in (x ≡ Err k) ↔ (before < after))
      → (r ≡ Err k) ↔ (start < after)
  told_on k start before after kept both = grind (arith, common_steps, passed_kind)

  -- an answer of this kind is a call's
  pub of_call : {U : Type 0} (k : RdsError) → r ≡ Err k → let x : Result U RdsError = Err e in x ≡ Err k
  of_call k p = ap (λ x. Err x) (passed_kind r e k same p)

-- an answer is of none of these kinds
pub of_none : (e a b c k : RdsError) → (e ≡ a) ⊎ ((e ≡ b) ⊎ (e ≡ c)) → a ≢ k → b ≢ k → c ≢ k → e ≢ k
of_none e a b c k (inl is) other _ _ p = other (sym is ∙ p)
of_none e a b c k (inr (inl is)) _ other _ p = other (sym is ∙ p)
of_none e a b c k (inr (inr is)) _ _ other p = other (sym is ∙ p)
