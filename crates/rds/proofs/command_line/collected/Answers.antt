use Rattle.rds.proofs.Names.{refl}
use Rattle.std.proofs.lemmas.Iterator.{items_from_collect, Adapters.YieldsList-from_vec}
use Rattle.rds.proofs.command_line.collected.Goals as goal

pub returns : goal.returns
returns c = λ len. items_from_collect _ c.collect.ensures.ran (YieldsList-from_vec _ refl len)
