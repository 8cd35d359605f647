use Rattle.std.proofs.Common.{◌≡◌, ◌+◌, ◌-◌, ◌≤◌, length, drop}
use Rattle.arraydeque_ring.specs.{Runs.{with_run, IsEmptyRun}, Steps.more_transfers}
use Rattle.arraydeque_ring.proofs.slots.Slots.put_blocks.Given as goal

abbrev pub invariant-loop-put : goal.invariant-loop-put
invariant-loop-put g l = record {
  within : l.put ≤ length l.items;
  empty : IsEmptyRun l.self.places (l.from + l.put) (length l.items - l.put);
  written : with_run (l.from + l.put) (drop l.put l.items) l.self.places ≡ with_run (l.from + l.at)
      (drop l.at l.items) l.initial.self.places;
  forth : l.at ≤ l.put;
  steps : l.self.steps ≡ more_transfers (l.put - l.at) l.initial.self.steps;
}

abbrev pub decreases-loop-put : goal.decreases-loop-put
decreases-loop-put g l = length l.items - l.put
