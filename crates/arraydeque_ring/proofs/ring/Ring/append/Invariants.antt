use Rattle.std.proofs.Common.{◌≡◌, ◌-◌, ◌≤◌}
use Rattle.arraydeque_ring.proofs.places.Appended.{joined, shed}
use Rattle.arraydeque_ring.proofs.ring.Ring.append.Given as goal

abbrev pub invariant-loop-left : goal.invariant-loop-left
invariant-loop-left g l = record {
  within : l.left ≤ l.fn.len;
  here : l.self ≡ joined (l.fn.len - l.left) l.fn.self l.fn.other;
  there : l.other ≡ shed (l.fn.len - l.left) l.fn.other;
}

abbrev pub decreases-loop-left : goal.decreases-loop-left
decreases-loop-left g l = l.left
