use Rattle.rds_sync.proofs.Lemmas.{arith, common_steps, count_of, joined, blocks_in, group-added}
use Rattle.rds_sync.proofs.counts.Counts.add_item.Goals as goal

pub returns-in-Group : goal.returns-in-Group
returns-in-Group c = grind (arith, common_steps, group-added, blocks_in, joined, count_of, c.add_group.ensures, c.word_of_blocks.ensures.blocks, c.in-Group.is, group-added c.args.self.now c.in-Group.group (blocks_in c.word_of_blocks.result) c.word_of_blocks.ensures.blocks)
