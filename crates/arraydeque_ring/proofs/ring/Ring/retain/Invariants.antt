use Rattle.std.specs.Fn.{CalledAt}
use Rattle.arraydeque_ring.proofs.retained.Retaining.{SoFar, Asked}
use Rattle.arraydeque_ring.proofs.ring.Ring.retain.Given as goal

abbrev pub invariant-loop-index : goal.invariant-loop-index
invariant-loop-index g l = SoFar (Asked (CalledAt g.F.FnMut) l.fn.f l.fn.self.items l.f) l.fn.self.items
    l.fn.self.steps l.capacity l.start l.len l.index l.kept l.slots.places l.slots.steps
