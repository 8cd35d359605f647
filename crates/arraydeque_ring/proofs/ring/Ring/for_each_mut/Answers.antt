use Rattle.std.proofs.Common.{arith}
use Rattle.arraydeque_ring.proofs.Written.{whole_part}
use Rattle.arraydeque_ring.proofs.ring.Ring.for_each_mut.Goals as goal

pub returns-clause-in_turn : goal.returns-clause-in_turn
returns-clause-in_turn g c = search (arith, whole_part)
