use Rattle.rds_live.proofs.Names.{rules, ◌^◌, ◌∙◌, sym, false≢true, AreGaps}
use Rattle.rds_live.proofs.stream_decoder.StreamDecoder.resume.Goals as goal

pub returns-then-not-can_be_live-clause-unlawful :
    goal.returns-then-not-can_be_live-clause-unlawful
returns-then-not-can_be_live-clause-unlawful c =
    let gaps : AreGaps (2 ^ 36) c.args.gaps.now = c.may_have_gaps.ensures.0 c.if-not-may_have_gaps.false in (
      λ _. (gaps, λ live. absurd (false≢true (sym c.if-not-can_be_live.true ∙ (c.can_be_live.ensures c.args.gaps.now gaps).1 live))),
      λ _. search rules,
    )

pub of-requires : goal.of-requires
of-requires c =
    (c.can_be_live.ensures c.args.gaps.now (c.may_have_gaps.ensures.0 c.if-not-may_have_gaps.false)).0 c.if-not-can_be_live.false

pub returns-in-Err-clause-unlawful : goal.returns-in-Err-clause-unlawful
returns-in-Err-clause-unlawful c = (
  λ is. search rules,
  λ other. absurd (other.1 ((c.can_be_live.ensures c.args.gaps.now (c.may_have_gaps.ensures.0 c.if-not-may_have_gaps.false)).0 c.if-not-can_be_live.false)),
)

pub returns-in-Err-clause-memory_last : goal.returns-in-Err-clause-memory_last
returns-in-Err-clause-memory_last c _ =
    (c.can_be_live.ensures c.args.gaps.now (c.may_have_gaps.ensures.0 c.if-not-may_have_gaps.false)).0 c.if-not-can_be_live.false
