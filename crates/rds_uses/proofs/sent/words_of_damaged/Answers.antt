use Rattle.rds_uses.proofs.Names.{A, B, D, GroupIsHeard, List, Signal, Some, [], ap, arith, bits_with_damage, flat_map, four_words, get_or, info_of, slice_index, subst, sym, ungapped, ℕ, ◌++◌, ◌∙◌, ◌∷◌, ◌≡◌}
use Rattle.rds_sync.proofs.SentRuns.{info_is}
use Rattle.rds_uses.proofs.sent.words_of_damaged.Goals.{After-info-4}
use Rattle.rds_code.specs.Encoding.{third_offset}
use Rattle.rds_sync.specs.declared.item.{Block.Block, Group.Group}
use Rattle.rds_uses.proofs.sent.words_of_damaged.Goals as goal

words-read : (c : After-info-4) (words damages : List ℕ) → GroupIsHeard c.args.recording.now c.args.rules.now.burst 1 c.args.place words damages
    → c.info.result ∷ c.info-2.result ∷ c.info-3.result ∷ c.info-4.result ∷ [] ≡ four_words words
words-read c words damages heard =
    let read = c.damaged_groups_are_corrected.ensures c.args.recording.now c.args.rules.now 1 c.args.place words damages (omega arith) (omega arith)
    (omega (arith, c.burst.ensures.range.burst)) heard in
    let blocks = ap (λ (g : Group). g.blocks) (c.requires ∙ read) in
    let read_at = λ (k : ℕ) (other : Block). ap (λ (all : List Block). info_of (get_or all k other)) blocks in
    let one : c.info.result ≡ Some (slice_index words 0) = c.info.ensures ∙ read_at 0 c.index-group-0.result ∙ info_is A (slice_index words 0) (slice_index damages 0) in
    let two : c.info-2.result ≡ Some (slice_index words 1) = c.info-2.ensures ∙ read_at 1 c.index-group-1.result ∙ info_is B (slice_index words 1) (slice_index damages 1) in
    let three : c.info-3.result ≡ Some (slice_index words 2) =
    c.info-3.ensures ∙ read_at 2 c.index-group-2.result ∙ info_is (third_offset (slice_index words 1)) (slice_index words 2) (slice_index damages 2) in
    let four : c.info-4.result ≡ Some (slice_index words 3) = c.info-4.ensures ∙ read_at 3 c.index-group-3.result ∙ info_is D (slice_index words 3) (slice_index damages 3) in
    cc

pub returns-clause-heard : goal.returns-clause-heard
returns-clause-heard c words damages heard = words-read (goal.at.returns-clause-heard c).After-info-4 words damages heard

pub returns-clause-bits : goal.returns-clause-bits
returns-clause-bits c = λ before after g correctable there same.
    let limit = c.args.rules.now.burst in
    let heard = (c.damaged_bits_are_decoded.ensures.heard before after limit (g ∷ []) (correctable, tt)).0 in
    let here = subst (λ (p : ℕ). GroupIsHeard (ungapped (before ++ (flat_map bits_with_damage (g ∷ []) ++ after))) limit 1 p g.words g.damages) (sym there) heard in
    words-read (goal.at.returns-clause-bits c).After-info-4 g.words g.damages
    (subst (λ (b : Signal). GroupIsHeard b limit 1 c.args.place g.words g.damages) (sym same) here)
