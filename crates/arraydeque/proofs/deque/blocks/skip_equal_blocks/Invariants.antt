use Rattle.std.proofs.Common.{◌≤◌, length}
use Rattle.arraydeque.specs.Compared.{AreBehindEqual}
use Rattle.arraydeque.proofs.deque.blocks.skip_equal_blocks.Given as goal

abbrev pub invariant-loop-pairs : goal.invariant-loop-pairs
invariant-loop-pairs g l = record {
  behind : AreBehindEqual g.T.PartialEq.eq l.left l.right l.left_back l.right_back;
  left : l.pairs ≤ length l.left_back;
  right : l.pairs ≤ length l.right_back;
}

abbrev pub decreases-loop-pairs : goal.decreases-loop-pairs
decreases-loop-pairs g l = l.pairs
