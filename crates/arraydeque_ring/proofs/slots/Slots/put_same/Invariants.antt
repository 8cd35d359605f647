use Rattle.std.proofs.Common.{◌≡◌, replicate}
use Rattle.arraydeque_ring.specs.{Runs.with_run, Steps.more_puts}
use Rattle.arraydeque_ring.proofs.slots.Slots.put_same.Given as goal

abbrev pub invariant-loop-k : goal.invariant-loop-k
invariant-loop-k g l = record {
  places : l.self.places ≡ with_run l.from (replicate l.k l.value) l.fn.self.places;
  steps : l.self.steps ≡ more_puts l.k l.fn.self.steps;
}
