use Rattle.std.proofs.Common.{◌≡◌, ◌-◌}
use Rattle.arraydeque_ring.specs.{Runs.run_emptied, Steps.more_takes}
use Rattle.arraydeque_ring.proofs.ring.resize.drop_run.Given as goal

abbrev pub invariant-loop-place : goal.invariant-loop-place
invariant-loop-place g l = record {
  places : l.slots.places ≡ run_emptied l.from (l.place - l.from) l.fn.slots.places;
  steps : l.slots.steps ≡ more_takes (l.place - l.from) l.fn.slots.steps;
}
