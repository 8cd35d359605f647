use Rattle.std.proofs.Common.{arith}
use Rattle.arraydeque_ring.proofs.places.Appended.{joined-both, shed-both}
use Rattle.arraydeque_ring.proofs.ring.Ring.append.Goals as goal

pub loop-left-preserved : goal.loop-left-preserved
loop-left-preserved g c = grind (arith, joined-both, shed-both)
