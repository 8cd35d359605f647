use Rattle.std.{proofs.Common.{suc, if◌then◌else◌}, specs.Iterator.size}
use Rattle.arraydeque_ring.proofs.fills.{Displaced.displaced_last, Laying.Laying}
use Rattle.arraydeque_ring.proofs.ring.Ring.displace_last.Given as goal

abbrev pub invariant-loop-ended : goal.invariant-loop-ended
invariant-loop-ended g l =
    Laying g.I.Iterator displaced_last l.fn.self l.fn.elements l.elements l.ended l.capacity l.self-inside l.slots

abbrev pub decreases-loop-ended : goal.decreases-loop-ended
decreases-loop-ended g l = if l.ended then 0 else suc (size (g.I.Iterator.remaining l.elements))
