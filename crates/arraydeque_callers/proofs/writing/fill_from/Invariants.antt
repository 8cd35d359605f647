use Rattle.std.proofs.Common.{◌≡◌, ℕ, ◌≤◌, ◌<◌, length, take, get_or}
use Rattle.arraydeque_callers.proofs.writing.fill_from.Given as goal

abbrev pub invariant-loop-index : goal.invariant-loop-index
invariant-loop-index g l = record {
  filled : (k : ℕ) (d : g.row.T.Denot) → l.from ≤ k → k < l.index → get_or l.deque.items k d ≡ l.x;
  before : take l.from l.deque.items ≡ take l.from l.fn.deque.items;
  len : length l.deque.items ≡ length l.fn.deque.items;
  start : l.deque.start ≡ l.fn.deque.start;
}
