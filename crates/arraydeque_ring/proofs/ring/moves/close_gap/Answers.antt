use Rattle.std.proofs.Common.{arith}
use Rattle.arraydeque_ring.proofs.gaps.GapMoves.{closed_up}
use Rattle.arraydeque_ring.proofs.ring.moves.close_gap.Goals as goal

pub returns-then-before-behind : goal.returns-then-before-behind
returns-then-before-behind g c = grind (arith, closed_up)
