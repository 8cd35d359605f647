use Rattle.std.{proofs.Common.{◌≡◌, length}, specs.List.list_any}
use Rattle.arraydeque.proofs.deque.blocks.has_equal.Given as goal

abbrev pub invariant-loop-back : goal.invariant-loop-back
invariant-loop-back g l =
    let is_equal = λ (y : g.row.T.Denot). g.T.PartialEq.eq y l.x in
    list_any is_equal l.back ≡ list_any is_equal l.items

abbrev pub decreases-loop-back : goal.decreases-loop-back
decreases-loop-back g l = length l.back
