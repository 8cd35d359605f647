use Rattle.std.proofs.Common.{◌≡◌}
use Rattle.arraydeque_ring.specs.{Runs.runs_exchanged, Steps.more_exchanges}
use Rattle.arraydeque_ring.proofs.slots.Slots.exchange_runs.Given as goal

abbrev pub invariant-loop-k : goal.invariant-loop-k
invariant-loop-k g l = record {
  places : l.self.places ≡ runs_exchanged l.a l.b l.k l.fn.self.places;
  steps : l.self.steps ≡ more_exchanges l.k l.fn.self.steps;
}
