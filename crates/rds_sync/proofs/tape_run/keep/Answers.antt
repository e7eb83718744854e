use Rattle.rds_sync.proofs.Lemmas.{common_steps, ◌≡◌, ◌-◌, ◌*◌, ℕ, List, ◌∙◌, arith, Signal, Block, Due, Closed, Lock, State, CountOf, added, IsCountStretch, IsStretch, RuleNumbers, blocks_in, group_of, items_of_due, place_by, state_of, step_by, LockLost as Lost, group-added, lost-added}
use Rattle.rds_sync.proofs.tape_run.keep.Goals as goal

-- the stretch up to a block that was due, counted
counted : (b : Signal) (rules : RuleNumbers) (s : State) (place to : ℕ) (last : Lock) (blocks : List Block) (reached due : Due) (before after : CountOf)
    → IsStretch b rules s place to (step_by to last blocks reached) → reached ≡ due → after ≡ added before (items_of_due last blocks due)
    → IsCountStretch b rules s place to before (place_by to last due, state_of due) after
counted b rules s place to last blocks reached due before after stretch is counts = grind (arith, common_steps)

pub returns-in-Closed-clause-came : goal.returns-in-Closed-clause-came
returns-in-Closed-clause-came g c =
    let last = c.follow_group-blocks.result.0 in
    let read = c.follow_group-blocks.result.1 in
    counted _ _ _ _ _ last read _ (Closed c.in-Closed.next) c.args.counts.now c.add_group.new.self c.follow_group-blocks.ensures.reached c.in-Closed.is
    (c.add_group.ensures ∙ group-added c.args.counts.now (group_of (last.due - 26 * (last.number - last.first) - 25) read) (blocks_in c.word_of_blocks.result) c.word_of_blocks.ensures.blocks)

pub returns-in-Lost-clause-came : goal.returns-in-Lost-clause-came
returns-in-Lost-clause-came g c =
    let last = c.follow_group-blocks.result.0 in
    let read = c.follow_group-blocks.result.1 in
    counted _ _ _ _ _ last read _ Lost c.args.counts.now c.add_loss.new.self c.follow_group-blocks.ensures.reached c.in-Lost.is
    (lost-added c.args.counts.now c.add_group-in-Lost.new.self c.add_loss.new.self (group_of (last.due - 26 * (last.number - last.first) - 25) read) (blocks_in c.word_of_blocks-in-Lost.result) last.due
    c.word_of_blocks-in-Lost.ensures.blocks c.add_group-in-Lost.ensures c.add_loss.ensures)

pub add_loss-requires : goal.add_loss-requires
add_loss-requires = grind (arith, common_steps)

pub add_group-requires : goal.add_group-requires
add_group-requires = grind (arith, common_steps)

pub add_group-requires-in-Lost : goal.add_group-requires-in-Lost
add_group-requires-in-Lost = grind (arith, common_steps)
