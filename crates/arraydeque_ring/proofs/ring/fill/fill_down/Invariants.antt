use Rattle.std.proofs.Common.{◌≡◌, false}
use Rattle.arraydeque_ring.{proofs.fills.Filling.Downwards, specs.{Fills.GoesOn, Steps.more_puts}}
use Rattle.arraydeque_ring.proofs.ring.fill.fill_down.Given as goal

abbrev pub invariant-loop-filled : goal.invariant-loop-filled
invariant-loop-filled g l = record {
  came : Downwards g.I.Iterator.next_gives l.fn.elements l.elements l.filled l.from l.fn.slots.places l.slots.places;
  steps : l.slots.steps ≡ more_puts l.filled l.fn.slots.steps;
  goes : GoesOn g.I.Iterator.can_next g.I.Iterator.remaining l.fn.elements l.elements false;
}
