use Rattle.arraydeque_ring.proofs.Written.{WrittenSoFar}
use Rattle.arraydeque_ring.specs.Written.{WritesAt}
use Rattle.arraydeque_ring.proofs.ring.writes.write_each.Given as goal

abbrev pub invariant-loop-item : goal.invariant-loop-item
invariant-loop-item g l = WrittenSoFar (WritesAt g.F.FnMut) l.initial.f l.initial.items l.items l.item-index l.f
