use Rattle.std.proofs.Common.{◌-◌, suc, if◌then◌else◌}
use Rattle.arraydeque_ring.proofs.fills.{InRows.filled_front, Laying.Laying}
use Rattle.arraydeque_ring.proofs.ring.Ring.fill_front.Given as goal

abbrev pub invariant-loop-ended : goal.invariant-loop-ended
invariant-loop-ended g l =
    Laying g.I.Iterator filled_front l.fn.self l.fn.elements l.elements l.ended l.capacity l.self-inside l.slots

abbrev pub decreases-loop-ended : goal.decreases-loop-ended
decreases-loop-ended g l = if l.ended then 0 else suc (l.capacity - l.self-inside.len)
