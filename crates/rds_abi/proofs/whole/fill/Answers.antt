use Rattle.rds_abi.proofs.Shared.{◌≡◌, ◌+◌, ◌++◌, ℕ, List, [], arith, drop, length, map, take, common_steps, item_in_c}
use Rattle.rds_abi.proofs.whole.fill.Goals as goal

-- once none is left, all are written, and the rest is as it was
all_written : {A B : Type 0} (f : A → B) (xs left : List A) (room old : List B) (at : ℕ) → left ≡ []
    → take at room ++ map f left ≡ map f xs → drop at room ≡ drop at old → at + length left ≡ length xs
    → room ≡ map f xs ++ drop (length (map f xs)) old
all_written f xs left room old at none written kept count = grind (arith, common_steps)

pub returns : goal.returns
returns c =
    let inv = c.loop-item.invariant in
    all_written item_in_c c.args.items c.loop-item.item-iterator c.loop-item.room c.args.room.now c.loop-item.at
    c.in-None.ensures.steps.0 inv.written inv.kept inv.count
