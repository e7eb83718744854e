use Rattle.rds.proofs.Names.{◌≡◌, List, None, Option, Some, ap, subst, ℕ, InputOf, RuleNumbers, stream_of}
use Rattle.rds_tool.specs.{Following.Follows, Following.Stream, Following.bit_stream, SoftFollowing.symbol_stream}
use Rattle.rds.proofs.session.follow_asked.Goals as goal

bits_asked : (rules : RuleNumbers) (gaps gaps' : List (ℕ × ℕ)) (bits bits' margin : Option ℕ) (workers : ℕ) → gaps ≡ gaps' → bits ≡ bits' → margin ≡ None
    → bit_stream (record { rules = rules; gaps = gaps }) workers bits ≡ stream_of rules gaps' bits' margin workers
bits_asked rules gaps gaps' bits bits' margin workers p q m = rw (p, q, m)

symbols_asked : (rules : RuleNumbers) (gaps gaps' : List (ℕ × ℕ)) (bits bits' margin : Option ℕ) (its workers : ℕ) → gaps ≡ gaps' → bits ≡ bits' → margin ≡ Some its
    → symbol_stream (record { rules = rules; gaps = gaps; margin = its }) bits ≡ stream_of rules gaps' bits' margin workers
symbols_asked rules gaps gaps' bits bits' margin its workers p q m = rw (p, q, m)

pub returns-in-None : goal.returns-in-None
returns-in-None g c =
    let its_bits = ap (λ (i : InputOf). i.bits) c.input.view_is in
    let its_gaps = ap (λ (i : InputOf). i.gaps) c.input.view_is in
    let lent = c.as_slice-gaps.ensures.value in
    let bits : c.input.inside.bits ≡ c.args.input.now.bits = cc in
    let gaps : c.as_slice-gaps.result.now ≡ c.args.input.now.gaps = cc in
    subst (λ (s : Stream). Follows g.S.Source g.K.Sink s c.args.reader.now c.follow.new.reader c.args.writer.now c.follow.new.writer c.follow.result) (bits_asked _ _ _ _ _ _ c.args.workers gaps bits c.in-None.is) c.follow.ensures.all

pub returns-in-Some : goal.returns-in-Some
returns-in-Some g c =
    let its_bits = ap (λ (i : InputOf). i.bits) c.input.view_is in
    let its_gaps = ap (λ (i : InputOf). i.gaps) c.input.view_is in
    let lent = c.as_slice-gaps.ensures.value in
    let bits : c.input.inside.bits ≡ c.args.input.now.bits = cc in
    let gaps : c.as_slice-gaps.result.now ≡ c.args.input.now.gaps = cc in
    subst (λ (s : Stream). Follows g.S.Source g.K.Sink s c.args.reader.now c.follow_soft.new.reader c.args.writer.now c.follow_soft.new.writer c.follow_soft.result) (symbols_asked _ _ _ _ _ _ _ c.args.workers gaps bits c.in-Some.is) c.follow_soft.ensures
