use Rattle.std.proofs.{Common.arith, lemmas.Grind.common_steps}
use Rattle.arraydeque_ring.proofs.fills.Copied.{block_leaves, block_written, first_empty}
use Rattle.arraydeque_ring.proofs.slots.Slots.put_block.Goals as goal

pub write_block-requires : goal.write_block-requires
write_block-requires g c = grind (arith, first_empty)

pub returns-clause-empty : goal.returns-clause-empty
returns-clause-empty g c = grind (arith, common_steps, block_leaves)

pub returns-clause-written : goal.returns-clause-written
returns-clause-written g c = grind (arith, block_written)
