use Rattle.std.proofs.Common.{◌<◌, ◌≤◌}
use Rattle.arraydeque.proofs.Searched.{Halves}
use Rattle.arraydeque.proofs.deque.searches.slice_less_count.Given as goal

abbrev pub invariant-loop-size : goal.invariant-loop-size
invariant-loop-size g l = record {
  callable : goal.F-IsAlwaysCallable g l.f;
  halves : Halves g.F.FnMut l.initial.f l.f l.items l.base l.size;
}

abbrev pub decreases-loop-size : goal.decreases-loop-size
decreases-loop-size g l = l.size

abbrev pub invariant-loop-size-2 : goal.invariant-loop-size-2
invariant-loop-size-2 g l = record {
  some : 1 < l.size;
  no_more : l.size ≤ l.initial.size;
  callable : goal.F-IsAlwaysCallable g l.f;
  halves : Halves g.F.FnMut l.fn.f l.f l.items l.base l.size;
}

abbrev pub decreases-loop-size-2 : goal.decreases-loop-size-2
decreases-loop-size-2 g l = l.size
