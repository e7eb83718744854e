use Rattle.rds_abi.proofs.Shared.{◌≡◌, ◌∙◌, ap, rules, sym}
use Rattle.rds_soft.specs.{declared.soft_item.SoftGroup.SoftGroup, declared.soft_item.SoftItem.TheVariants.Group as InSoft, ReadAgain.group_again, ReadAgain.item_again, ReadAgain.symbols_of}
use Rattle.rds_abi.proofs.soft.group_there.Goals as goal

group_is : (g h : SoftGroup) → InSoft g ≡ InSoft h → g ≡ h
group_is g h same = cc

pub returns : goal.returns
unfolding item_again
returns c =
    let b = c.args.source.now.recording.now in
    let symbols = symbols_of c.args.source.now.symbols.now in
    let margin = c.args.source.now.margin in
    group_is c.in-Group.group (group_again b symbols margin c.saturating_sub.result c.args.group.blocks) (sym c.in-Group.is ∙ c.read_again.ensures)
    ∙ ap (λ p. group_again b symbols margin p c.args.group.blocks) c.saturating_sub.ensures

pub unreachable-requires : goal.unreachable-requires
unfolding item_again
unreachable-requires c = search rules
