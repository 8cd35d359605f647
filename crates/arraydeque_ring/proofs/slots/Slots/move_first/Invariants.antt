use Rattle.std.proofs.Common.{◌≡◌, ◌+◌, ◌-◌, ◌*◌, ◌≤◌}
use Rattle.arraydeque_ring.specs.{Moved.{CanMoveRun, run_moved}, Steps.more_transfers}
use Rattle.arraydeque_ring.proofs.slots.Slots.move_first.Given as goal

abbrev pub invariant-loop-moved : goal.invariant-loop-moved
invariant-loop-moved g l = record {
  within : l.moved ≤ l.len;
  can : CanMoveRun (l.dst + l.moved) (l.src + l.moved) (l.len - l.moved) l.self.places;
  moved : run_moved (l.dst + l.moved) (l.src + l.moved) (l.len - l.moved) l.self.places ≡ run_moved (l.dst + l.from)
      (l.src + l.from) (l.len - l.from) l.initial.self.places;
  forth : l.from ≤ l.moved;
  steps : l.self.steps ≡ more_transfers (2 * (l.moved - l.from)) l.initial.self.steps;
}

abbrev pub decreases-loop-moved : goal.decreases-loop-moved
decreases-loop-moved g l = l.len - l.moved
