use Rattle.std.proofs.Common.{◌≢◌, All}
use Rattle.arraydeque_ring.specs.Loans.{remaining}
use Rattle.arraydeque_callers.proofs.writing.fill_until.Given as goal

abbrev pub invariant-loop-found : goal.invariant-loop-found
invariant-loop-found g l = record {
  found : All (λ item. item ≢ l.fn.stop) l.fn.deque.items → All (λ item. item ≢ l.fn.stop) (remaining l.found-iterator);
  none : All (λ item. item ≢ l.fn.stop) (remaining l.found-iterator) → All (λ item. item ≢ l.fn.stop) l.fn.deque.items;
}
