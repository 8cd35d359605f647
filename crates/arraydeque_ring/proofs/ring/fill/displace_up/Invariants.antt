use Rattle.std.{proofs.Common.{◌≡◌, ◌+◌, ◌≤◌}, specs.Iterator.{IsFinite, size}}
use Rattle.arraydeque_ring.{proofs.fills.Filling.Upwards, specs.Steps.{more_puts, more_takes}}
use Rattle.arraydeque_ring.proofs.ring.fill.displace_up.Given as goal

abbrev pub invariant-loop-displaced : goal.invariant-loop-displaced
invariant-loop-displaced g l = record {
  came : Upwards g.I.Iterator.next_gives l.fn.elements l.elements l.displaced l.from l.fn.slots.places
      l.slots.places;
  steps : l.slots.steps ≡ more_puts l.displaced (more_takes l.displaced l.fn.slots.steps);
  may : g.I.Iterator.can_next l.elements;
  ends : IsFinite (g.I.Iterator.remaining l.elements);
  nearer : size (g.I.Iterator.remaining l.elements) + l.displaced ≤ size (g.I.Iterator.remaining l.fn.elements);
}
