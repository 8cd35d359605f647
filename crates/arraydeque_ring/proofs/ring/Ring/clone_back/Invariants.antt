use Rattle.std.proofs.Common.{◌≡◌, take}
use Rattle.arraydeque_ring.proofs.{fills.InRows.filled_back, Opened.{Kept, view}}
use Rattle.arraydeque_ring.proofs.ring.Ring.clone_back.Given as goal

abbrev pub invariant-loop-item : goal.invariant-loop-item
invariant-loop-item g l = record {
  kept : Kept l.self-inside;
  so_far : view l.self-inside ≡ filled_back (take l.item-index l.items) l.fn.self;
}
