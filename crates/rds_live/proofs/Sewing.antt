-- A decoder that takes over the count of a guess.
use Rattle.rds_live.proofs.Names.{common_steps, ◌≡◌, ◌+◌, ◌-◌, ◌*◌, ◌^◌, ◌≤◌, ◌++◌, ◌∙◌, List, [], ap, arith, drop, length, refl, subst, sym, take, ℕ, drop-drop, drop_at, length-append, take_rest, AreGaps, IsAtMost, plus, IsInRange, totals_of, State, Totals, IsWithin, NextIsHeard, PiecesJoin, completed, guessed, live_next, HasHeard, IsStreamDecoder, LiveOf, Terms, last_bytes, live_of, most_counted, most_kept}
use Rattle.rds_live.proofs.Following.{at-most-more}

-- the last bytes of a stream are those of its end, if that is long enough
pub end_kept : (tail front : List ℕ) → most_kept ≤ length front → take (length front - (length front - most_kept)) (drop (length front - most_kept) front) ≡ last_bytes (tail ++ front)
end_kept tail front long =
    let k : ℕ = length front - most_kept in
    let there : length tail + k ≡ length (tail ++ front) - most_kept = omega (arith, length-append tail front, long) in
    take_rest front k ∙ sym (ap (λ (n : ℕ). drop n (tail ++ front)) (sym there) ∙ sym (drop-drop k (length tail) (tail ++ front)) ∙ ap (drop k) (drop_at tail front (length tail) refl))

-- nothing more was counted before
pub plus-none : (t u : Totals) → plus t (plus (totals_of []) u) ≡ plus t u
plus-none t u = grind (arith, common_steps)

-- the decoder after more bytes than a seam, from a guess that was in its state there
pub sewn : (live guess : LiveOf) (rest : List ℕ) (mark : State) (totals : Totals) → guess ≡ live_next (guessed live mark) rest → mark ≡ live.state → totals ≡ plus live.totals guess.totals
    → record { terms = live.terms; tail = guess.tail; place = guess.place; state = guess.state; totals = totals } ≡ live_next live rest
sewn live guess rest mark totals is met sum =
    let same : guess ≡ live_next (guessed live live.state) rest = is ∙ ap (λ (s : State). live_next (guessed live s) rest) met in
    let all : totals ≡ plus live.totals (totals_of (completed live rest)) =
    sum ∙ ap (λ (g : LiveOf). plus live.totals g.totals) same ∙ plus-none live.totals (totals_of (completed live rest)) in
    ap (λ (t : Totals). record { terms = live.terms; tail = guess.tail; place = guess.place; state = guess.state; totals = t }) all
    ∙ ap (λ (g : LiveOf). record { terms = live.terms; tail = g.tail; place = g.place; state = g.state; totals = plus live.totals (totals_of (completed live rest)) }) same

-- a guess that began in the state there
pub guessed-there : (old next guess : LiveOf) (seam : List ℕ) (mark : State) (rest : List ℕ) → guess ≡ live_next (guessed (live_next old seam) mark) rest → next ≡ live_next old seam → mark ≡ next.state
    → guess ≡ live_next (guessed next next.state) rest
guessed-there old next guess seam mark rest is there met =
    is ∙ ap (λ (l : LiveOf). live_next (guessed l mark) rest) (sym there) ∙ ap (λ (s : State). live_next (guessed next s) rest) met

-- the numbers of a guess, which begins with a search at the same place
pub guess_is : (live : LiveOf) (front seam tail : List ℕ) (place : ℕ) (search : State) (none : Totals) (guess : LiveOf) → tail ≡ last_bytes (live.tail ++ front) → place ≡ live.place + 8 * length front
    → guess ≡ live_next (record { terms = live.terms; tail = tail; place = place; state = search; totals = none }) seam
    → record guess { totals = totals_of [] } ≡ guessed (live_next (live_next live front) seam) guess.state
guess_is live front seam tail place search none guess tail_is place_is is = grind (arith, common_steps)

-- what grew twice
pub both-within : (m k : ℕ) (first next last : Totals) → IsWithin m first next → IsWithin k next last → IsWithin (m + k) first last
both-within m k first next last one two = record {
  within = λ n few. at-most-more (n + most_counted m + most_counted k) (n + most_counted (m + k)) last (omega arith) (two.within (n + most_counted m) (one.within n few));
}

none-counted : IsAtMost 0 (totals_of [])
none-counted = grind (arith, common_steps)

-- all that was counted
pub from-none : (bits : ℕ) (first last : Totals) → first ≡ totals_of [] → IsWithin bits first last → IsAtMost (most_counted bits) last
from-none bits first last none within =
    at-most-more (0 + most_counted bits) (most_counted bits) last (omega arith) (within.within 0 (subst (λ (t : Totals). IsAtMost 0 t) (sym none) none-counted))

pub within-all : (m k : ℕ) (first last : Totals) → m ≡ k → IsWithin m first last → IsWithin k first last
within-all m k first last same is = subst (λ (n : ℕ). IsWithin n first last) same is

-- ---- a stream that is heard on

-- the decoder that has heard nothing
pub first-is : (terms : Terms) → AreGaps (2 ^ 36) terms.gaps → IsStreamDecoder (live_of terms [])
first-is terms gaps = record { whole = refl; limit = omega arith; kept = refl; lawful = tt; small = none-counted; gaps = gaps }

-- whether or not these are numbers of a decoder
pub heard-on : NextIsHeard → PiecesJoin → (live : LiveOf) (before bytes : List ℕ) → IsInRange live.terms.rules → AreGaps (2 ^ 36) live.terms.gaps → HasHeard live before
    → HasHeard (live_next live bytes) (before ++ bytes)
heard-on next join live before bytes range gaps heard =
    let first : LiveOf = live_of live.terms [] in
    let known : IsStreamDecoder first = first-is live.terms gaps in
    let all : (xs : List ℕ) → live_next first xs ≡ live_of live.terms xs = λ xs. (next first [] xs range known refl).0 in
    ap (λ (l : LiveOf). live_next l bytes) (heard ∙ sym (all before)) ∙ (join first before bytes range known).0 ∙ all (before ++ bytes)
