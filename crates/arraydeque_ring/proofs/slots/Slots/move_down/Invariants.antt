use Rattle.std.proofs.Common.{◌≡◌}
use Rattle.arraydeque_ring.specs.{Runs.runs_exchanged, Steps.more_moves}
use Rattle.arraydeque_ring.proofs.slots.Slots.move_down.Given as goal

abbrev pub invariant-loop-k : goal.invariant-loop-k
invariant-loop-k g l = record {
  places : l.self.places ≡ runs_exchanged l.dst l.src l.k l.fn.self.places;
  steps : l.self.steps ≡ more_moves l.k l.fn.self.steps;
}
