use Rattle.std.{proofs.Common.{◌≡◌, take}, specs.Cmp.Lexicographic.pointwise}
use Rattle.arraydeque.proofs.deque.blocks.are_all_equal.Given as goal

abbrev pub invariant-loop-k : goal.invariant-loop-k
invariant-loop-k g l = l.equal ≡ pointwise g.T.PartialEq.eq (take l.k l.left) (take l.k l.right)
