use Rattle.rds_uses.proofs.Names.{AreCompleted, AreWritten, HasHeard, List, stream_of, subst, take_all, terms_of, ℕ, ◌++◌}
use Rattle.rds_uses.proofs.library.push_all.Goals as goal

pub returns-clause-heard : goal.returns-clause-heard
returns-clause-heard c before h =
    subst (λ (bytes : List ℕ). HasHeard (stream_of (terms_of c.args.rules c.args.gaps.now) c.push.new.stream) (before ++ bytes))
    (take_all c.push.new.taken c.args.bytes.now c.if-taken-bytes.false) (c.in_ok-push.ensures.heard before h)

pub returns-clause-items : goal.returns-clause-items
returns-clause-items c =
    subst (λ (bytes : List ℕ). AreWritten (AreCompleted (terms_of c.args.rules c.args.gaps.now) c.args.stream.now bytes) c.args.room.now c.push.new.room c.push.new.count)
    (take_all c.push.new.taken c.args.bytes.now c.if-taken-bytes.false) c.in_ok-push.ensures.items
