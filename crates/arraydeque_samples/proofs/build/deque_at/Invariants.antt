use Rattle.std.proofs.Common.{◌≡◌, [], take}
use Rattle.arraydeque.specs.RingWords.{place_of}
use Rattle.arraydeque_samples.proofs.build.deque_at.Given as goal

abbrev pub invariant-loop : goal.invariant-loop
invariant-loop g l = record {
  items : l.deque.items ≡ [];
  start : l.deque.start ≡ place_of 0 l.counter g.row.CAP;
}

abbrev pub invariant-loop-item : goal.invariant-loop-item
invariant-loop-item g l = record {
  items : l.deque.items ≡ take l.item-index l.items;
  start : l.deque.start ≡ place_of 0 l.start g.row.CAP;
}
