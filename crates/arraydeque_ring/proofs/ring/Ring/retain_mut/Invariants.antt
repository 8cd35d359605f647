use Rattle.std.specs.Fn.{CalledAtMut}
use Rattle.arraydeque_ring.specs.Steps.{more_lends}
use Rattle.arraydeque_ring.proofs.retained.{Retaining.SoFar, Writing.Written}
use Rattle.arraydeque_ring.proofs.ring.Ring.retain_mut.Given as goal

abbrev pub invariant-loop-index : goal.invariant-loop-index
invariant-loop-index g l = SoFar (Written (CalledAtMut g.F.FnMut) l.fn.f l.fn.self.items l.f) l.fn.self.items
    (more_lends l.index l.fn.self.steps) l.capacity l.start l.len l.index l.kept l.slots.places l.slots.steps
