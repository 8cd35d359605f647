use Rattle.std.proofs.Common.{◌-◌}
use Rattle.arraydeque_ring.{proofs.linearize.Rotating.Rotating, specs.Steps.Rearranges}
use Rattle.arraydeque_ring.proofs.ring.linearize.rotate.Given as goal

abbrev pub invariant-loop-next : goal.invariant-loop-next
invariant-loop-next g l = record {
  walk : Rotating l.capacity l.start l.len l.dst l.next l.fn.slots.places l.slots.places;
  steps : Rearranges l.dst l.fn.slots.steps l.slots.steps;
}

abbrev pub decreases-loop-next : goal.decreases-loop-next
decreases-loop-next g l = l.len - l.dst
