use Rattle.std.proofs.Common.{◌+◌, ◌-◌, ◌∙◌, arith}
use Rattle.arraydeque_ring.proofs.moved.{
  Flat.{all_moved, length-moved},
  TwoMoves.{can_move, last_block_goes, round_run},
}
use Rattle.arraydeque_ring.proofs.slots.Slots.move_last.Goals as goal

pub move_block-requires-clause-filled : goal.move_block-requires-clause-filled
move_block-requires-clause-filled g c =
    let goes = last_block_goes _ _ (c.args.len - (c.loop-moved.moved + g.row.N)) g.row.N _ _
    (omega arith) c.loop-moved.invariant.can c.requires.up in
    round_run _ _ _ (omega arith) goes.first

pub loop-moved-preserved : goal.loop-moved-preserved
loop-moved-preserved g c =
    let goes = last_block_goes _ _ (c.args.len - (c.loop-moved.moved + g.row.N)) g.row.N _ _
    (omega arith) c.loop-moved.invariant.can c.requires.up in
    rw c.move_block.ensures (record {
      within = omega arith;
      can = can_move (length-moved _ _ _ _) (omega arith) goes.second;
      moved = goes.is ∙ c.loop-moved.invariant.moved;
      steps = grind (arith, c.loop-moved.invariant.steps);
    })

pub returns-clause-all : goal.returns-clause-all
returns-clause-all g c = grind (arith, all_moved)
