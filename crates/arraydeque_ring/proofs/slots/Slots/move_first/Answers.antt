use Rattle.std.proofs.{Common.{◌+◌, ◌-◌, ◌∙◌, arith}, Math.Nat.add_assoc}
use Rattle.arraydeque_ring.proofs.moved.{
  Flat.{all_moved, length-moved},
  TwoMoves.{can_move, first_block_goes, round_run},
}
use Rattle.arraydeque_ring.proofs.slots.Slots.move_first.Goals as goal

pub move_block-requires-clause-filled : goal.move_block-requires-clause-filled
move_block-requires-clause-filled g c =
    round_run _ _ _ (omega arith) (λ k lt. c.loop-moved.invariant.can.filled k (omega arith))

pub loop-moved-preserved : goal.loop-moved-preserved
loop-moved-preserved g c =
    let goes = first_block_goes _ _ g.row.N (c.args.len - (c.loop-moved.moved + g.row.N)) _ _
    (omega arith) c.loop-moved.invariant.can (omega arith) in
    rw (
      c.move_block.ensures,
      ← add_assoc c.args.dst c.loop-moved.moved g.row.N,
      ← add_assoc c.args.src c.loop-moved.moved g.row.N,
    ) (record {
      within = omega arith;
      can = can_move (length-moved _ _ _ _) (omega arith) goes.second;
      moved = goes.is ∙ c.loop-moved.invariant.moved;
      forth = omega (arith, c.loop-moved.invariant.forth);
      steps = grind (arith, c.loop-moved.invariant.steps);
    })

pub returns-else-is_block-clause-all : goal.returns-else-is_block-clause-all
returns-else-is_block-clause-all g c = λ one. absurd (grind (arith, rw one at c.is_block.ensures, c.if-is_block.false))

pub returns-after-loop-moved-clause-all : goal.returns-after-loop-moved-clause-all
returns-after-loop-moved-clause-all g c = grind (arith, all_moved)
