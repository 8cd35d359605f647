use Rattle.std.proofs.Common.{arith}
use Rattle.arraydeque_ring.proofs.Opened.{run_filled}
use Rattle.arraydeque_ring.proofs.ring.Ring.truncate.Goals as goal

pub drop_round-requires-clause-filled : goal.drop_round-requires-clause-filled
drop_round-requires-clause-filled g c = run_filled c.self.inside c.self.invariant _ _ (omega arith)
