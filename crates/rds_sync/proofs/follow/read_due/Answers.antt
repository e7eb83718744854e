use Rattle.rds_sync.proofs.Lemmas.{common_steps, ◌≡◌, ◌-◌, ℕ, List, Option, get_or, set, ap, ◌∙◌, arith, reading_heard, Block, Read, Either, block_at, wanted_beside, blocks_at-next, good-reading}
use Rattle.rds_sync.proofs.follow.read_due.Goals.{then-lock-eq3, else-lock-eq3}
use Rattle.rds_sync.proofs.follow.read_due.Goals as goal

pub returns-clause-valid : goal.returns-clause-valid
returns-clause-valid g c = grind (arith, common_steps, reading_heard, good-reading)

pub returns-clause-blocks : goal.returns-clause-blocks
returns-clause-blocks g c =
    let reading_is : c.read-reading.result ≡ reading_heard c.window.result c.args.lock.number c.if-lock-eq3.wanted c.args.rules.now.burst =
    c.read-reading.ensures ∙ ap (λ (n : ℕ). reading_heard c.window.result n c.if-lock-eq3.wanted c.args.rules.now.burst) c.in-Some.ensures.number in
    let l = c.args.lock in
    let b = g.T.Tape.signal c.args.tape.now in
    let rules = c.args.rules.now in
    ap (λ (blocks : List Block). set blocks (l.number - 1) (Read c.read-reading.result)) c.requires.in_progress
    ∙ blocks_at-next b rules l.first l.number l.due c.if-lock-eq3.wanted (Read c.read-reading.result) (omega arith) (omega arith) (omega arith)
    (ap Read reading_is
    ∙ ap (λ (h : Option ℕ). Read (reading_heard h l.number c.if-lock-eq3.wanted rules.burst)) c.window.ensures.value)
    (λ other. elim c.if-lock-eq3.branch [
      | then-lock-eq3 w ↦ absurd (other w.if-lock-eq3.true)
      | else-lock-eq3 w ↦ w.wanted-is
    ])
    (λ third. elim c.if-lock-eq3.branch [
      | then-lock-eq3 w ↦
          let two : l.number - 1 ≡ 2 = omega (arith, third) in
          w.wanted-is ∙ w.wanted_beside-wanted.ensures
          ∙ ap (λ (second : Block). wanted_beside second)
          (ap (λ (blocks : List Block). get_or blocks 1 w.index-blocks-1.result) c.requires.in_progress)
          ∙ ap (λ (n : ℕ). wanted_beside (block_at b rules l.first n (l.due - 26) Either 2)) two
      | else-lock-eq3 w ↦ absurd (w.if-lock-eq3.false third)
    ])
