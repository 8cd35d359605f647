use Rattle.std.{proofs.Common.{◌≡◌, take}, specs.List.list_any}
use Rattle.arraydeque.proofs.deque.blocks.is_any_equal.Given as goal

abbrev pub invariant-loop-k : goal.invariant-loop-k
invariant-loop-k g l = l.found ≡ list_any (λ y. g.T.PartialEq.eq y l.x) (take l.k l.items)
