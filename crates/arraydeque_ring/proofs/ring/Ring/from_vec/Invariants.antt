use Rattle.std.proofs.Common.{◌≡◌, ◌+◌, ◌≤◌, List, ◌++◌, length, take, replicate, None, vec_len}
use Rattle.arraydeque_ring.specs.{Runs.with_run, Steps.{no_steps, more_puts}}
use Rattle.arraydeque_ring.proofs.ring.Ring.from_vec.Given as goal

abbrev pub invariant-loop-item : goal.invariant-loop-item
invariant-loop-item g l = (rest : List g.row.T.Denot) × record {
  all : l.items.items ++ rest ≡ take l.capacity l.fn.v.items;
  fits : vec_len l.items + length rest ≤ l.capacity;
  places : l.slots.places ≡ with_run (vec_len l.items) rest (replicate l.capacity None);
  steps : l.slots.steps ≡ more_puts (length rest) no_steps;
}

abbrev pub decreases-loop-item : goal.decreases-loop-item
decreases-loop-item g l = vec_len l.items
