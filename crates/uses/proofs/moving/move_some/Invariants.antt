use Rattle.std.proofs.Common.{◌≡◌, ◌++◌, ◌+◌, ◌≤◌, ◌-◌, length}
use Rattle.uses.proofs.moving.move_some.Given as goal

abbrev pub invariant-loop-moved : goal.invariant-loop-moved
invariant-loop-moved g l = record {
  most : l.moved ≤ l.count;
  none_lost : l.to.items ++ l.from.items ≡ l.initial.to.items ++ l.initial.from.items;
  moved : length l.to.items ≡ length l.initial.to.items + l.moved;
}

abbrev pub decreases-loop-moved : goal.decreases-loop-moved
decreases-loop-moved g l = l.count - l.moved
